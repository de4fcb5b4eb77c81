-- The version and the formats that an OpenURL names, as proxies and older sources write them.
use Rattle.std.specs.Prelude.{ℕ, Bool, true, false, ◌&&◌, not, List, codes}
use Rattle.std.specs.List.{list_any}
use Rattle.std.specs.Str.{str_eq_ignore_ascii_case}
use Rattle.form_urlencoded.specs.Form as form
use Rattle.feed_bytes.specs.Trim.{trimmed}
use Rattle.feed_answer.specs.Pairs.{book_format, journal_format}
use Rattle.feed_openurl.specs.declared.kind.FormatNames.{FormatNames}
use Rattle.feed_openurl.specs.declared.key.Key.{Key}
use Rattle.feed_openurl.specs.declared.key.Key.TheVariants.{Version, Format}

-- a key has a version, or a format
abbrev pub is_version_key : Key → Bool
is_version_key Version = true
is_version_key _ = false

abbrev pub is_format_key : Key → Bool
is_format_key Format = true
is_format_key _ = false

abbrev pub is_version : Key × List ℕ → Bool
is_version value = is_version_key value.0

abbrev pub is_format : Key × List ℕ → Bool
is_format value = is_format_key value.0

-- a value is this text, in any case, with spaces at its ends, also if it was encoded twice
abbrev pub is_text : List ℕ → List ℕ → Bool
is_text text value = str_eq_ignore_ascii_case (trimmed (form.decode value)) text

-- a value names another version of the standard
abbrev pub names_other_version : Key × List ℕ → Bool
names_other_version value = is_version value && not (is_text (codes "") value.1) && not (is_text (codes "Z39.88-2004") value.1)

-- a value names this format
abbrev pub names_format : List ℕ → Key × List ℕ → Bool
names_format format value = is_format value && is_text format value.1

-- a value names a format that is neither that of journals nor that of books
abbrev pub names_other_format : Key × List ℕ → Bool
names_other_format value =
    is_format value && not (is_text (codes "") value.1) && not (is_text journal_format value.1) && not (is_text book_format value.1)

-- the formats that an OpenURL names
abbrev pub formats_of : List (Key × List ℕ) → FormatNames
formats_of values = record { journal = list_any (names_format journal_format) values; book = list_any (names_format book_format) values }
