-- The rows whose titles contain a text, without regard to case.
use Rattle.std.specs.Prelude.{ℕ, ◌+◌, nat_le, ◌&&◌, ◌||◌, not, Bool, if◌then◌else◌, List, None, length, map, is_some}
use Rattle.std.specs.Char.{is_ascii, to_ascii_lowercase}
use Rattle.std.specs.List.{list_all}
use Rattle.std.specs.Str.{chars, encode_utf8_all, is_utf8}
use Rattle.caseless.specs.Caseless.{default_case_fold}
use Rattle.memchr.specs.Find.{first_of, matches}
use Rattle.feed_names.specs.ReleaseName.{Name}
use Rattle.feed_kbart.specs.RowValue.{RowValue}
use Rattle.node_site.specs.Held.{library_has}
use Rattle.node_site.specs.Site as site_file

-- ASCII, or not UTF-8
abbrev pub is_plain : List ℕ → Bool
is_plain text = list_all is_ascii text || not (is_utf8 text)

-- a text without its case: the letters of ASCII in lower case, and those of UTF-8 by full case folding (The Unicode
-- Standard, section 3.13)
unfoldable pub folded : List ℕ → List ℕ
folded text =
    if is_plain text then map to_ascii_lowercase text else encode_utf8_all (default_case_fold (chars text))

-- the part occurs in a text
unfoldable pub has_part : List ℕ → List ℕ → Bool
has_part part text = is_some (first_of (matches text part 0))

-- a row, and the release that has it
pub record EntryValue : Type 0 where
  pub name : Name
  pub row : RowValue

abbrev pub entry_of : Name → RowValue → EntryValue
entry_of name row = record { name = name; row = row }

-- the most bytes of the texts of a row that is found, so that a response stays small
abbrev pub row_limit : ℕ
row_limit = 65536

-- the texts of a row are short enough
abbrev pub is_short : RowValue → Bool
is_short row = nat_le (length row.title + length row.depth + length row.embargo) row_limit

-- a row is short, its title contains a part, which is folded, and the library has the row
unfoldable pub is_found : site_file.SiteValue → List ℕ → EntryValue → Bool
is_found site part entry =
    is_short entry.row
    && has_part part (folded entry.row.title)
    && library_has site entry.name.package_name entry.row.title_id entry.row.first_day entry.row.last_day None
