-- The words of each text, and the names by which a site file replaces texts.
use Rattle.std.specs.Prelude.{ℕ, Bool, List}
use Rattle.std.specs.List.{list_any}
use Rattle.std.specs.Str.{bytes_eq}
use Rattle.node_site.specs.declared.texts.Language.{Language}
use Rattle.node_site.specs.declared.texts.Language.TheVariants.{English, German, French}
use Rattle.node_site.specs.declared.text_table.Text.{Text}
use Rattle.node_site.specs.declared.text_table.TheConstants.{TEXTS}
use Rattle.node_site.specs.Rows.{row_of}

-- the words of a text in a language
unfoldable pub words_of : Language → Text → List ℕ
words_of English text = (row_of text).english
words_of German text = (row_of text).german
words_of French text = (row_of text).french

-- the name of a text
unfoldable pub name_of : Text → List ℕ
name_of text = (row_of text).name

-- a text has this name
unfoldable pub is_name : List ℕ → Bool
is_name name = list_any (λ text. bytes_eq (name_of text) name) TEXTS
