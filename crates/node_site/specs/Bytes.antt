-- Classes of bytes.
use Rattle.std.specs.Prelude.{ℕ, Bool}
use Rattle.std.specs.Char.{is_ascii_alphabetic, is_ascii_alphanumeric, is_ascii_hexdigit}
use Rattle.feed_names.specs.ReleaseName.{is_package_byte}
use Rattle.node_site.specs.Urls.{is_label_byte, is_visible}
use Rattle.node_site.specs.declared.bytes.ByteClass.{ByteClass}
use Rattle.node_site.specs.declared.bytes.ByteClass.TheVariants.{Letter, LetterOrDigit, HexDigit, Visible, Label, Stem}

-- a byte is in a class
abbrev pub is_in : ByteClass → ℕ → Bool
is_in Letter = is_ascii_alphabetic
is_in LetterOrDigit = is_ascii_alphanumeric
is_in HexDigit = is_ascii_hexdigit
is_in Visible = is_visible
is_in Label = is_label_byte
is_in Stem = is_package_byte
