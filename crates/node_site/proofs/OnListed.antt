-- The packages with a title that a row of a holdings file switches on.
use Rattle.std.proofs.Common.{◌≡◌, ℕ, ◌+◌, ◌<◌, ◌&&◌, ◌||◌, Bool, true, false, cond, nat_lt, List, [], ◌∷◌, map, Option, Some, None, is_some, if◌then◌else◌}
use Rattle.std.proofs.Common.{length, drop, get_or, sum_by, refl, sym, ap, ◌∙◌, arith}
use Rattle.std.specs.List.{find, list_any}
use Rattle.std.specs.Option.{option_or}
use Rattle.std.specs.Str.{bytes_eq}
use Rattle.std.proofs.lemmas.Bool.Decides.{nat_tests}
use Rattle.std.proofs.lemmas.List.{drop_all, drop_more}
use Rattle.std.proofs.lemmas.List.Sums.{sum_by-cons}
use Rattle.node_site.specs.declared.entry.Entry.{Entry}
use Rattle.node_site.specs.declared.places.Places.{Places}
use Rattle.node_site.specs.Held.{is_on_listed}
use Rattle.node_site.specs.HoldingsEntries.{AreEntries, entries_at}
use Rattle.node_site.specs.HoldingsFiles.{has_bytes, line_at, row_of, row_places, rows_of}
use Rattle.node_site.specs.HoldingsIndex.{AreOnBelow, AreOnListed, is_on_entry}
use Rattle.node_site.specs.Indexes.{AddsPlace, place_at}
use Rattle.node_site.specs.Site.{TitleValue}

some_or : (a b : Option ℕ) → is_some (option_or a b) ≡ (is_some a || is_some b)
some_or None b = refl
some_or (Some n) b = refl

some_if : (b : Bool) (place : ℕ) → is_some (if b then Some place else None) ≡ b
some_if true place = refl
some_if false place = refl

or_assoc : (a b c : Bool) → ((a || b) || c) ≡ (a || (b || c))
or_assoc true b c = refl
or_assoc false b c = refl

or_false : (a : Bool) → (a || false) ≡ a
or_false true = refl
or_false false = refl

-- a row that switches a title on has the test of its package, and another row has none
and_on : (a b c : Bool) → (a && b) ≡ true → c ≡ (a && (b && c))
and_on true true c h = refl
and_on true false c h = absurd (cc)
and_on false b c h = absurd (cc)

and_off : (a b c : Bool) → (a && b) ≡ false → (a && (b && c)) ≡ false
and_off true true c h = absurd (cc)
and_off true false c h = refl
and_off false b c h = refl

module _ (text : List ℕ) (entry : Entry) (id : List ℕ) where
  abbrev row : TitleValue
  row = row_of (line_at text entry.start)

  pub put : (old new : Places) (place : ℕ) → (has_bytes row.id && row.holding.is_held) ≡ true → AddsPlace old row.package_id place new
      → is_some (place_at id new) ≡ (is_some (place_at id old) || is_on_entry text id entry)
  put old new place on adds =
      let same : Bool = bytes_eq row.package_id id in
      ap is_some (adds id) ∙ some_or (place_at id old) (if same then Some place else None)
      ∙ ap (λ (b : Bool). is_some (place_at id old) || b) (some_if same place ∙ and_on (has_bytes row.id) row.holding.is_held same on)

  pub left : (places : Places) → (has_bytes row.id && row.holding.is_held) ≡ false
      → is_some (place_at id places) ≡ (is_some (place_at id places) || is_on_entry text id entry)
  left places off =
      sym (ap (λ (b : Bool). is_some (place_at id places) || b) (and_off (has_bytes row.id) row.holding.is_held (bytes_eq row.package_id id) off)
      ∙ or_false (is_some (place_at id places)))

pub none_on : (text : List ℕ) (entries : List Entry) (on : Places) → ((id : List ℕ) → place_at id on ≡ None) → AreOnBelow text entries 0 on
none_on text entries on none = λ id. ap (λ (o : Option ℕ). is_some o || list_any (is_on_entry text id) entries) (none id)

-- one more entry
pub next_on : (text : List ℕ) (entries : List Entry) (index : ℕ) (entry : Entry) (old new : Places) → index < length entries → entry ≡ get_or entries index entry
    → ((id : List ℕ) → is_some (place_at id new) ≡ (is_some (place_at id old) || is_on_entry text id entry)) → AreOnBelow text entries index old
    → AreOnBelow text entries (index + 1) new
next_on text entries index entry old new within at adds on = λ id.
    let rest : List Entry = drop (index + 1) entries in
    let cut : drop index entries ≡ entry ∷ rest = drop_more entries index entry within ∙ ap (λ (e : Entry). e ∷ rest) (sym at) in
    ap (λ (b : Bool). b || list_any (is_on_entry text id) rest) (adds id)
    ∙ or_assoc (is_some (place_at id old)) (is_on_entry text id entry) (list_any (is_on_entry text id) rest)
    ∙ ap (λ (es : List Entry). is_some (place_at id old) || list_any (is_on_entry text id) es) (sym cut) ∙ on id

-- whether one passes depends on the weights alone
one_if : (b : Bool) (n : ℕ) (rest : Bool) → rest ≡ nat_lt 0 n → (b || rest) ≡ nat_lt 0 ((if b then 1 else 0) + n)
one_if true n rest is = grind (arith, nat_tests)
one_if false n rest is = is ∙ ap (nat_lt 0) (omega arith)

any_sum : (test : Entry → Bool) (entries : List Entry) → list_any test entries ≡ nat_lt 0 (sum_by (λ (e : Entry). if test e then 1 else 0) entries)
any_sum test [] = refl
any_sum test (e ∷ entries) =
    one_if (test e) (sum_by (λ (e : Entry). if test e then 1 else 0) entries) (list_any test entries) (any_sum test entries)
    ∙ ap (nat_lt 0) (sym (sum_by-cons (λ (e : Entry). if test e then 1 else 0) e entries))

any_row : (text id : List ℕ) (places : List ℕ)
    → list_any (is_on_entry text id) (entries_at text places) ≡ is_some (find (is_on_listed id) (map (λ (place : ℕ). row_of (line_at text place)) places))
any_row text id [] = refl
any_row text id (place ∷ places) = go (is_on_listed id (row_of (line_at text place))) (any_row text id places)
  where
    go : (b : Bool)
        → list_any (is_on_entry text id) (entries_at text places) ≡ is_some (find (is_on_listed id) (map (λ (place : ℕ). row_of (line_at text place)) places))
        → (b || list_any (is_on_entry text id) (entries_at text places))
        ≡ is_some (cond b (Some (row_of (line_at text place))) (find (is_on_listed id) (map (λ (place : ℕ). row_of (line_at text place)) places)))
    go true rest = refl
    go false rest = rest

-- behind the last entry the packages are those of the rows
pub all_on : (text : List ℕ) (entries : List Entry) (index : ℕ) (on : Places) → index ≡ length entries → AreEntries text entries → AreOnBelow text entries index on
    → AreOnListed text on
unfolding rows_of
all_on text entries index on end same are = λ id.
    let test : Entry → Bool = is_on_entry text id in
    let none : drop index entries ≡ [] = drop_all index entries (omega (arith, end)) in
    sym (or_false (is_some (place_at id on))) ∙ ap (λ (es : List Entry). is_some (place_at id on) || list_any test es) (sym none) ∙ are id
    ∙ any_sum test entries ∙ ap (nat_lt 0) (same (λ (e : Entry). if test e then 1 else 0)) ∙ sym (any_sum test (entries_at text (row_places text)))
    ∙ any_row text id (row_places text)

-- without a file no title is on
pub none_listed : (id : List ℕ) → false ≡ is_some (find (is_on_listed id) (rows_of []))
unfolding rows_of
none_listed id = refl
