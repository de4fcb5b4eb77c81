-- The values that the rows of a list give, one row after another.
use Rattle.std.proofs.Common.{◌≡◌, ℕ, ◌+◌, ◌<◌, List, [], ◌∷◌, ◌++◌, Option, Some, None, refl, sym, ap, ◌∙◌}
use Rattle.std.proofs.Common.{append_assoc, drop, get_or, length}
use Rattle.std.specs.List.{cons_option, filter_map}
use Rattle.std.proofs.lemmas.List.{append-nil, drop_more}
use Rattle.toml.specs.Data.{Members, as_table}
use Rattle.toml.specs.View.{items_view, view}
use Rattle.toml.specs.declared.value.Value.{Value}
use Rattle.node_site.specs.Site.{row_or, rows_of}

of_one : {B : Type 0} (one : Option B) (rest : List B) → cons_option one [] ++ rest ≡ cons_option one rest
of_one None rest = refl
of_one (Some x) rest = refl

module _ {A B : Type 0} (read : Members → A) (f : A → Option B) where
  abbrev pub made : List A → List B
  made rows = filter_map f rows

  -- what is made of a row, and then of the others
  joined_row : (row : Option Members) (rest : List A) (xs : List B) → (xs ++ made (row_or read row [])) ++ made rest ≡ xs ++ made (row_or read row rest)
  joined_row None rest xs = ap (λ (ys : List B). ys ++ made rest) (append-nil xs)
  joined_row (Some ms) rest xs =
      append_assoc xs (cons_option (f (read ms)) []) (made rest) ∙ ap (λ (ys : List B). xs ++ ys) (of_one (f (read ms)) (made rest))

  -- one row more
  pub next_row : (rows : List Value) (place : ℕ) (row : Value) (old new all : List B) → place < length rows → row ≡ get_or rows place row
      → new ≡ old ++ made (row_or read (as_table (view row)) [])
      → old ++ made (rows_of read (items_view (drop place rows))) ≡ all
      → new ++ made (rows_of read (items_view (drop (place + 1) rows))) ≡ all
  next_row rows place row old new all within at adds so_far =
      let cut : drop place rows ≡ row ∷ drop (place + 1) rows = drop_more rows place row within ∙ ap (λ (v : Value). v ∷ drop (place + 1) rows) (sym at) in
      let rest : List A = rows_of read (items_view (drop (place + 1) rows)) in
      ap (λ (ys : List B). ys ++ made rest) adds ∙ joined_row (as_table (view row)) rest old
      ∙ ap (λ (vs : List Value). old ++ made (rows_of read (items_view vs))) (sym cut) ∙ so_far
