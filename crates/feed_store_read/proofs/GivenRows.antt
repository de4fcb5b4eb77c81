-- The parts read so far, with one more row.
use Rattle.std.proofs.Common.{◌≡◌, ◌++◌, ℤ, ℕ, Bool, true, false, List, [], ◌∷◌, map, filter, MatchBool, refl, sym, ap, subst, ◌∙◌, append-nil, append_assoc}
use Rattle.std.proofs.lemmas.List.{map-append}
use Rattle.std.proofs.lemmas.List.Elements.{filter-append}
use Rattle.sqlite_value.specs.declared.value.Value.TheVariants.{Int}
use Rattle.sqlite_value.specs.Order.{Row}
use Rattle.sqlite_trees.specs.Tree.{rowid}
use Rattle.sqlite_trees.proofs.ListLemmas.{all-append}
use Rattle.feed_names.specs.ReleaseName.{text_of}
use Rattle.feed_model.specs.Content.{Content, Part, Record}
use Rattle.feed_store_model.specs.Tables.{IsPieceRow, is_of, part_in, piece_row, text_in}
use Rattle.feed_store_read.specs.Pieces.{ShowPieces, given_to, with_rows}

one_more : (rows : List Row) (row : Row) (r : Record) → given_to (text_in row) (part_in row) (with_rows rows r) ≡ with_rows (rows ++ row ∷ []) r
one_more rows row r =
    by (is_of (text_of r.name) row) refl
  where
    parts : List Row → List Part
    parts rs = map part_in (filter (is_of (text_of r.name)) rs)

    full : List Part → Record
    full ps = record r { parts = ps }

    more : parts (rows ++ row ∷ []) ≡ parts rows ++ parts (row ∷ [])
    more = ap (map part_in) (filter-append (is_of (text_of r.name)) rows (row ∷ [])) ∙ map-append part_in _ _

    by : (b : Bool) → is_of (text_of r.name) row ≡ b → given_to (text_in row) (part_in row) (with_rows rows r) ≡ with_rows (rows ++ row ∷ []) r
    by true e =
        let last : parts (row ∷ []) ≡ part_in row ∷ [] = rw e refl in
        rw e (ap full (append_assoc r.parts (parts rows) (part_in row ∷ []) ∙ ap (λ ps. r.parts ++ ps) (sym (more ∙ ap (λ ps. parts rows ++ ps) last))))
    by false e =
        let last : parts (row ∷ []) ≡ [] = rw e refl in
        rw e (ap full (ap (λ ps. r.parts ++ ps) (sym (more ∙ ap (λ ps. parts rows ++ ps) last ∙ append-nil (parts rows)))))

each_more : (rows : List Row) (row : Row) (c : Content) → map (given_to (text_in row) (part_in row)) (map (with_rows rows) c) ≡ map (with_rows (rows ++ row ∷ [])) c
each_more rows row [] = refl
each_more rows row (r ∷ rs) = λ i. one_more rows row r i ∷ each_more rows row rs i

pub piece_more : (rows : List Row) (row : Row) (id : ℤ) (text : List ℕ) (p : Part) (ids more : List ℤ) (start now new : Content) → row ≡ piece_row id text p
    → more ≡ ids ++ id ∷ [] → new ≡ map (given_to text p) now → ShowPieces rows ids start now → ShowPieces (rows ++ row ∷ []) more start new
piece_more rows row id text p ids more start now new is longer given was =
    let row_is : IsPieceRow row = subst IsPieceRow (sym is) refl in
    let number : rowid row ≡ Int id = ap rowid is in
    let named : text_in row ≡ text = ap text_in is in
    let part : part_in row ≡ p = ap part_in is in record {
      proper = all-append IsPieceRow rows (row ∷ []) was.proper (row_is, tt);
      numbers = map-append rowid rows (row ∷ []) ∙ (λ i. was.numbers i ++ number i ∷ []) ∙ sym (map-append Int ids (id ∷ [])) ∙ ap (map Int) (sym longer);
      shows = given ∙ (λ i. map (given_to (sym named i) (sym part i)) (was.shows i)) ∙ each_more rows row start;
    }

none_with : (c : Content) → map (with_rows []) c ≡ c
none_with [] = refl
none_with (r ∷ rs) = λ i. (let x : Record = record r { parts = append-nil r.parts i } in x) ∷ none_with rs i

pub pieces_none : (ids : List ℤ) (c : Content) → ids ≡ [] → ShowPieces [] ids c c
pieces_none ids c none = record { proper = tt; numbers = rw none refl; shows = sym (none_with c) }

-- one of two cases, each turned into another one
pub both_ways : {A B C D : Type 0} (b : Bool) → MatchBool b A B → (A → C) → (B → D) → MatchBool b C D
both_ways true it f g = f it
both_ways false it f g = g it
