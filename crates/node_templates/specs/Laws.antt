-- The laws of all templates and values.
use Rattle.std.specs.Prelude.{◌≡◌, ℕ, true, if◌then◌else◌, List, []}
use Rattle.std.specs.List.{flat_map}
use Rattle.node_site.specs.Site as site_file
use Rattle.node_templates.specs.Values.{Values}
use Rattle.node_templates.specs.declared.template.Hole.{Hole}
use Rattle.node_templates.specs.declared.template.When.{When}
use Rattle.node_templates.specs.declared.template.Template.{Template}
use Rattle.node_templates.specs.Pages.{Part, is_shown, page_text}
use Rattle.node_templates.specs.Sound.{are_sound_parts, html_of, is_sound}
use Rattle.node_templates.specs.Templates.{lines_of}
use Rattle.node_templates.specs.Tags.{HasTagsOf, OwnPage, OtherPage}

module _ (site : site_file.SiteValue) (values : Values) where
  -- the HTML of a line that is written, without its values
  abbrev pub line_html : When × List (List ℕ × Hole) → List ℕ
  line_html line = if is_shown site values line.0 then html_of line.1 else []

  abbrev pub lines_html : List (When × List (List ℕ × Hole)) → List ℕ
  lines_html lines = flat_map line_html lines

-- the HTML of the templates of a page: of the lines that are written, without their values
unfoldable pub page_html : site_file.SiteValue → List Part → List ℕ
page_html site parts = flat_map (λ (part : Part). lines_html site part.1 (lines_of part.0)) parts

-- no value can change the tags, the addresses or the style of a template
abbrev pub TemplatesAreSound : Type 0
TemplatesAreSound = (template : Template) → is_sound OwnPage (lines_of template) ≡ true

-- whatever its values are, a page has the tags of its templates alone, and its addresses are safe
abbrev pub PagesKeepTags : Type 0
PagesKeepTags =
    (site : site_file.SiteValue) (parts : List Part) → HasTagsOf OwnPage (page_html site parts) (page_text site parts)

-- so does a fragment of a page of another site, if each of its templates may be in one
abbrev pub FragmentsKeepTags : Type 0
FragmentsKeepTags =
    (site : site_file.SiteValue) (parts : List Part) → are_sound_parts OtherPage parts ≡ true
    → HasTagsOf OtherPage (page_html site parts) (page_text site parts)
