-- A law of the names of texts.
use Rattle.std.specs.Prelude.{◌≡◌, true}
use Rattle.node_site.specs.declared.text_table.Text.{Text}
use Rattle.node_site.specs.Words.{is_name, name_of}

-- each text can be replaced by its name
abbrev pub TextsHaveNames : Type 0
TextsHaveNames = (text : Text) → is_name (name_of text) ≡ true
