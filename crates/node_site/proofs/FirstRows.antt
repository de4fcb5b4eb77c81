-- The first row of a list that passes a test.
use Rattle.std.proofs.Common.{◌≡◌, ℕ, ◌+◌, ◌-◌, ◌≤◌, ◌<◌, Bool, true, false, cond, List, [], ◌∷◌, Option, Some, None, option_map, unwrap_or}
use Rattle.std.proofs.Common.{if◌then◌else◌, length, drop, get_or, zero, suc, refl, sym, ap, ◌∙◌, arith}
use Rattle.std.specs.List.{find, position_or_len}
use Rattle.std.specs.Option.{option_or}
use Rattle.std.proofs.lemmas.List.{drop_all, drop_more}
use Rattle.toml.specs.Data.{Data, Items, no_items, item, Members, as_table}
use Rattle.toml.specs.View.{items_view, view}
use Rattle.toml.specs.declared.value.Value.{Value}
use Rattle.node_site.specs.declared.section.Section.{Section}
use Rattle.node_site.specs.Faults.{MisfitValue, or_misfit, row_fault, rows_fault}
use Rattle.node_site.specs.Indexes.{count_of, first_place, first_place_in, place_or, row_at, row_in}
use Rattle.node_site.specs.Site.{row_or, rows_in, rows_of}
use Rattle.node_site.proofs.ByteKeys.{or_none, or_or}

-- the table at a place is that of the value
pub row_here : (rows : List Value) (place : ℕ) (row : Value) → place < length rows → row ≡ get_or rows place row → row_at place (items_view rows) ≡ as_table (view row)
row_here [] place row within at = absurd (omega (arith, within))
row_here (v ∷ rows) zero row within at = ap (λ (v : Value). as_table (view v)) (sym at)
row_here (v ∷ rows) (suc place) row within at = row_here rows place row (omega (arith, within)) at

pub row_past : (rows : List Value) (place : ℕ) → length rows ≤ place → row_at place (items_view rows) ≡ None
row_past [] zero over = refl
row_past [] (suc place) over = refl
row_past (v ∷ rows) zero over = absurd (omega (arith, over))
row_past (v ∷ rows) (suc place) over = row_past rows place (omega (arith, over))

pub count_rows : (rows : List Value) → count_of (items_view rows) ≡ length rows
count_rows [] = refl
count_rows (v ∷ rows) = let more = count_rows rows in omega (arith, more)

module _ {A : Type 0} (make : Members → A) (test : A → Bool) where
  -- a row, and then those after it
  place_then : (place : ℕ) (t : Option Members) (rest : Option ℕ) → place_or make test place t rest ≡ option_or (place_or make test place t None) rest
  place_then place None rest = refl
  place_then place (Some ms) rest = go (test (make ms))
    where
      go : (b : Bool) → (if b then Some place else rest) ≡ option_or (if b then Some place else None) rest
      go true = refl
      go false = refl

  -- no row is looked at yet
  pub first_row : (rows : List Value) (nothing : Option ℕ) → nothing ≡ None
      → option_or nothing (first_place make test 0 (items_view (drop 0 rows))) ≡ first_place make test 0 (items_view rows)
  first_row rows nothing is = rw is refl

  -- one more row is looked at
  pub next_row : (rows : List Value) (place : ℕ) (row : Value) (old new all : Option ℕ) → place < length rows → row ≡ get_or rows place row
      → new ≡ option_or old (place_or make test place (as_table (view row)) None)
      → option_or old (first_place make test place (items_view (drop place rows))) ≡ all
      → option_or new (first_place make test (place + 1) (items_view (drop (place + 1) rows))) ≡ all
  next_row rows place row old new all within at adds so_far =
      let cut : drop place rows ≡ row ∷ drop (place + 1) rows = drop_more rows place row within ∙ ap (λ (v : Value). v ∷ drop (place + 1) rows) (sym at) in
      let rest : Option ℕ = first_place make test (place + 1) (items_view (drop (place + 1) rows)) in
      let both : option_or old (first_place make test place (items_view (row ∷ drop (place + 1) rows))) ≡ all = ap
      (λ (vs : List Value). option_or old (first_place make test place (items_view vs))) (sym cut) ∙ so_far in
      rw adds (or_or old (place_or make test place (as_table (view row)) None) rest ∙ ap (option_or old) (sym (place_then place (as_table (view row)) rest)) ∙ both)

  -- all rows are looked at
  pub all_rows : (rows : List Value) (place : ℕ) (found all : Option ℕ) → length rows ≤ place
      → option_or found (first_place make test place (items_view (drop place rows))) ≡ all → found ≡ all
  all_rows rows place found all over is =
      let nothing : drop place rows ≡ [] = drop_all place rows over in
      sym (or_none found) ∙ ap (λ (vs : List Value). option_or found (first_place make test place (items_view vs))) (sym nothing) ∙ is

  -- no row is before its number
  not_before : (k j : ℕ) (rows : Items) → first_place make test k rows ≡ Some j → k ≤ j
  not_before k j no_items h = cc
  not_before k j (item d ds) h = go (not_before (k + 1) j ds) (as_table d) h
    where
      go : (first_place make test (k + 1) ds ≡ Some j → k + 1 ≤ j) → (t : Option Members) → place_or make test k t (first_place make test (k + 1) ds) ≡ Some j → k ≤ j
      go more None e = omega (arith, more e)
      go more (Some ms) e = by (test (make ms)) e
        where
          by : (b : Bool) → (if b then Some k else first_place make test (k + 1) ds) ≡ Some j → k ≤ j
          by true found = let same : k ≡ j = cc in omega (arith, same)
          by false found = omega (arith, more found)

  -- the row at a place, counted from a number
  abbrev row_from : ℕ → Option ℕ → Items → Option Members
  row_from k None rows = None
  row_from k (Some place) rows = row_at (place - k) rows

  behind : (k : ℕ) (d : Data) (ds : Items) (o : Option ℕ) → ((j : ℕ) → o ≡ Some j → k + 1 ≤ j) → row_from k o (item d ds) ≡ row_from (k + 1) o ds
  behind k d ds None later = refl
  behind k d ds (Some j) later =
      let le = later j refl in
      let less : j - k ≡ suc (j - (k + 1)) = omega (arith, le) in
      rw less refl

  found_from : (k : ℕ) (rows : Items) → option_map make (row_from k (first_place make test k rows) rows) ≡ find test (rows_of make rows)
  found_from k no_items = refl
  found_from k (item d ds) =
      go (ap (option_map make) (behind k d ds (first_place make test (k + 1) ds) (λ j e. not_before (k + 1) j ds e)) ∙ found_from (k + 1) ds) (as_table d) refl
    where
      go : option_map make (row_from k (first_place make test (k + 1) ds) (item d ds)) ≡ find test (rows_of make ds) → (t : Option Members) → as_table d ≡ t
          → option_map make (row_from k (place_or make test k t (first_place make test (k + 1) ds)) (item d ds)) ≡ find test (row_or make t (rows_of make ds))
      go more None e = more
      go more (Some ms) e = by (test (make ms))
        where
          here : option_map make (row_at (k - k) (item d ds)) ≡ Some (make ms)
          here = let nought : k - k ≡ 0 = omega arith in rw (nought, e) refl

          by : (b : Bool) → option_map make (row_from k (if b then Some k else first_place make test (k + 1) ds) (item d ds)) ≡ cond b (Some (make ms)) (find test (rows_of make ds))
          by true = here
          by false = more

  from_zero : (o : Option ℕ) (rows : Items) → row_in o (Some rows) ≡ row_from 0 o rows
  from_zero None rows = refl
  from_zero (Some place) rows = let same : place - 0 ≡ place = omega arith in rw same refl

  -- the row at the first place is the first that passes
  pub found : (rows : Option Items) → option_map make (row_in (first_place_in make test rows) rows) ≡ find test (rows_in make rows)
  found None = refl
  found (Some rows) = ap (option_map make) (from_zero (first_place make test 0 rows) rows) ∙ found_from 0 rows

  -- what the table at the first place makes
  pub found_table : {T : Type 0} (members_of : T → Members) (table : Option T) (place : Option ℕ) (rows : Option Items) → option_map members_of table ≡ row_in place rows
      → place ≡ first_place_in make test rows → option_map (λ t. make (members_of t)) table ≡ find test (rows_in make rows)
  found_table members_of table place rows is first =
      both table ∙ ap (option_map make) is ∙ ap (λ (o : Option ℕ). option_map make (row_in o rows)) first ∙ found rows
    where
      both : (t : Option _) → option_map (λ t. make (members_of t)) t ≡ option_map make (option_map members_of t)
      both None = refl
      both (Some t) = refl

  no_fault : (a b : Option MisfitValue) → or_misfit a b ≡ None → (a ≡ None) × (b ≡ None)
  no_fault None b h = (refl, h)
  no_fault (Some misfit) b h = cc

  -- where each row is a table, the first place is the number of tables before it
  pub counted : (name : List ℕ) (section : Section) (number k : ℕ) (rows : Items) → rows_fault name section number rows ≡ None
      → unwrap_or (first_place make test k rows) (k + count_of rows) ≡ k + position_or_len test (rows_of make rows)
  counted name section number k no_items fine = refl
  counted name section number k (item d ds) fine =
      let parts = no_fault (row_fault name section number (as_table d)) (rows_fault name section (number + 1) ds) fine in
      go (counted name section (number + 1) (k + 1) ds parts.1) (as_table d) parts.0
    where
      go : unwrap_or (first_place make test (k + 1) ds) ((k + 1) + count_of ds) ≡ (k + 1) + position_or_len test (rows_of make ds)
          → (t : Option Members) → row_fault name section number t ≡ None
          → unwrap_or (place_or make test k t (first_place make test (k + 1) ds)) (k + (1 + count_of ds)) ≡ k + position_or_len test (row_or make t (rows_of make ds))
      go more None bad = cc
      go more (Some ms) here = by (test (make ms)) refl
        where
          by : (b : Bool) → test (make ms) ≡ b
              → unwrap_or (if b then Some k else first_place make test (k + 1) ds) (k + (1 + count_of ds)) ≡ k + position_or_len test (make ms ∷ rows_of make ds)
          by true passes = let same : k + 0 ≡ k = omega arith in rw passes (sym same)
          by false fails =
              let sum : k + (1 + count_of ds) ≡ (k + 1) + count_of ds = omega arith in
              let place : k + (1 + position_or_len test (rows_of make ds)) ≡ (k + 1) + position_or_len test (rows_of make ds) = omega arith in
              rw (fails, sum) (more ∙ sym place)
