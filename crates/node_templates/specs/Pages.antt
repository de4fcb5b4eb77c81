-- The text of templates and pages, whose slots have values.
use Rattle.std.specs.Prelude.{ℕ, ◌&&◌, Bool, true, false, if◌then◌else◌, List, [], ◌∷◌, ◌++◌, map}
use Rattle.std.specs.List.{flat_map, list_all}
use Rattle.node_site.specs.Site as site_file
use Rattle.node_site.specs.Texts.{text_of}
use Rattle.node_site.specs.Hosts.{is_link}
use Rattle.node_response.specs.Escapes.{escaped}
use Rattle.node_templates.specs.declared.template.Hole.{Hole}
use Rattle.node_templates.specs.declared.template.Hole.TheVariants.{Nothing, Value, Words}
use Rattle.node_templates.specs.declared.template.When.{When}
use Rattle.node_templates.specs.declared.template.When.TheVariants.{Always, Given, Linked, Styled}
use Rattle.node_templates.specs.declared.template.Template.{Template}
use Rattle.node_templates.specs.Tags.{is_style_byte}
use Rattle.node_templates.specs.Templates.{lines_of}
use Rattle.node_templates.specs.Values.{Values, value_of}

-- a text has bytes
abbrev pub has_bytes : List ℕ → Bool
has_bytes [] = false
has_bytes (b ∷ bytes) = true

-- a word that is safe in a style
abbrev pub is_style : List ℕ → Bool
is_style text = has_bytes text && list_all is_style_byte text

module _ (site : site_file.SiteValue) (values : Values) where
  -- what follows a fragment of HTML
  abbrev pub hole_text : Hole → List ℕ
  hole_text Nothing = []
  hole_text (Value slot) = escaped (value_of site values slot)
  hole_text (Words text) = escaped (text_of site text)

  abbrev pub fragment_text : List ℕ × Hole → List ℕ
  fragment_text fragment = fragment.0 ++ hole_text fragment.1

  unfoldable pub fragments_text : List (List ℕ × Hole) → List ℕ
  fragments_text fragments = flat_map fragment_text fragments

  -- a line is written
  abbrev pub is_shown : When → Bool
  is_shown Always = true
  is_shown (Given slot) = has_bytes (value_of site values slot)
  is_shown (Linked slot) = is_link (value_of site values slot)
  is_shown (Styled slot) = is_style (value_of site values slot)

  abbrev pub line_text : When × List (List ℕ × Hole) → List ℕ
  line_text line = if is_shown line.0 then fragments_text line.1 else []

  abbrev pub lines_text : List (When × List (List ℕ × Hole)) → List ℕ
  lines_text lines = flat_map line_text lines

  unfoldable pub template_text : Template → List ℕ
  template_text template = lines_text (lines_of template)

-- a part of a page: a template with its values
abbrev pub Part : Type 0
Part = Template × Values

-- a page is its parts, one after another
unfoldable pub page_text : site_file.SiteValue → List Part → List ℕ
page_text site parts = flat_map (λ (part : Part). template_text site part.1 part.0) parts

-- templates with the same values
abbrev pub with_values : Values → List Template → List Part
with_values values templates = map (λ (template : Template). (template, values)) templates
