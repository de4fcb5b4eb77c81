-- The texts of the pages of a site.
use Rattle.std.specs.Prelude.{ℕ, List, Option, Some, None, if◌then◌else◌, codes, unwrap_or}
use Rattle.std.specs.Str.{str_eq_ignore_ascii_case}
use Rattle.node_site.specs.declared.texts.Language.{Language}
use Rattle.node_site.specs.declared.texts.Language.TheVariants.{English, German, French}
use Rattle.node_site.specs.declared.text_table.Text.{Text}
use Rattle.node_site.specs.Words.{name_of, words_of}
use Rattle.node_site.specs.Urls.{before_byte}
use Rattle.node_site.specs.Site.{SiteValue, replacement}

-- the language at the front of a tag, in any case of letters; English if it has no texts
abbrev pub language_of : List ℕ → Language
language_of tag =
    if str_eq_ignore_ascii_case (before_byte 45 tag) (codes "de") then German
    else if str_eq_ignore_ascii_case (before_byte 45 tag) (codes "fr") then French
    else English

abbrev pub language_in : Option (List ℕ) → Language
language_in None = English
language_in (Some tag) = language_of tag

-- a text of the pages: what the site file has in its place, or else the words in the language of the site
unfoldable pub text_of : SiteValue → Text → List ℕ
text_of site text = unwrap_or (replacement (name_of text) site.replaced) (words_of (language_in site.language) text)
