-- The cells of a row in a block of bytes, each behind its length.
use Rattle.std.specs.Prelude.{ℕ, zero, suc, ◌<◌, ◌^◌, ◌==◌, nat_lt, Bool, true, false, List, [], ◌∷◌, ◌++◌, length, take, drop, map, Option, Some, if◌then◌else◌}
use Rattle.std.specs.Int.{from_le_bytes, to_le_bytes, w32}
use Rattle.feed_bytes.specs.Trim.{trimmed}
use Rattle.feed_kbart.specs.Columns.{cell, column_of}
use Rattle.feed_kbart.specs.Labels.{label_count, slot, stored_labels}
use Rattle.feed_kbart.specs.RowValue.{RowValue}
use Rattle.feed_kbart.specs.Rows.{row_of}
use Rattle.feed_kbart.specs.declared.header.Columns.{Columns}
use Rattle.feed_kbart.specs.declared.identifiers.Kind.TheVariants as of

-- a length is one byte, or the byte 255 and four bytes, the lowest first
abbrev pub length_bytes : ℕ → List ℕ
length_bytes n = if nat_lt n 255 then n ∷ [] else 255 ∷ to_le_bytes w32 n

-- a text behind its length
abbrev pub text_bytes : List ℕ → List ℕ
text_bytes text = length_bytes (length text) ++ text

-- the length of a text fits in four bytes
abbrev pub IsShort : List ℕ → Type 0
IsShort text = length text < 2 ^ 32

-- the first bytes, and the others
abbrev pub cut : ℕ → List ℕ → List ℕ × List ℕ
cut n bytes = (take n bytes, drop n bytes)

-- the text behind a length of four bytes, and the bytes after it
abbrev pub split_long : List ℕ → List ℕ × List ℕ
split_long (a ∷ b ∷ c ∷ d ∷ bytes) = cut (from_le_bytes w32 (a ∷ b ∷ c ∷ d ∷ [])) bytes
split_long _ = ([], [])

-- the first text, and the bytes after it
abbrev pub split_text : List ℕ → List ℕ × List ℕ
split_text [] = ([], [])
split_text (n ∷ bytes) = if n == 255 then split_long bytes else cut n bytes

-- the first texts
unfoldable pub texts_in : ℕ → List ℕ → List (List ℕ)
texts_in zero bytes = []
texts_in (suc n) bytes = (split_text bytes).0 ∷ texts_in n (split_text bytes).1

-- the columns of labels in the order in which the cells of a record are stored
abbrev pub in_order : Columns → List (Option ℕ)
in_order columns = map (column_of columns) stored_labels

-- the cells of a record, in that order
abbrev pub cells_of : Columns → List (List ℕ) → List (List ℕ)
cells_of columns fields = map (λ column. cell column fields) (in_order columns)

-- the number of cells that are only parsed: the identifiers, the publication type, the dates and the volumes, which
-- come first in that order
abbrev pub parsed_count : ℕ
parsed_count = 7

-- a cell as it is kept: without the spaces at its ends if it is only parsed
abbrev pub kept_text : Bool → List ℕ → List ℕ
kept_text true text = trimmed text
kept_text false text = text

-- the cells of a record as they are kept
abbrev pub kept_cells : List (List ℕ) → List (List ℕ)
kept_cells cells = map trimmed (take parsed_count cells) ++ drop parsed_count cells

-- the columns of a record that has its cells in this order
abbrev pub stored_columns : Columns
stored_columns = record { columns = map (λ label. Some (slot label)) stored_labels }

-- the row with these cells
abbrev pub row_with_cells : ℕ → List (List ℕ) → RowValue
row_with_cells number cells = row_of stored_columns number cells

-- the row whose cells are at the front of bytes
abbrev pub row_at : ℕ → List ℕ → RowValue
row_at number bytes = row_with_cells number (texts_in label_count bytes)
