-- The entries of an identifier are those of the rows that have it.
use Rattle.std.proofs.Common.{◌≡◌, ◌<◌, ◌≤◌, ◌+◌, ℕ, zero, suc, Bool, true, false, ◌||◌, eqb, List, [], ◌∷◌, ◌++◌, map}
use Rattle.std.proofs.Common.{length, Option, Some, None, IfSome, option_map, if◌then◌else◌, refl, sym, ap, ◌∙◌, append_assoc, arith, sum_by}
use Rattle.std.specs.List.{All, cons_option, enumerate_from, filter_map}
use Rattle.std.specs.Str.{bytes_eq}
use Rattle.std.specs.Cmp.Lexicographic.{bytes_decides}
use Rattle.std.proofs.lemmas.Bool.Decides.{nat_tests}
use Rattle.std.proofs.lemmas.List.{append-nil, length-append, length-map, map-append}
use Rattle.std.proofs.lemmas.List.Elements.{All-append, filter-append}
use Rattle.std.proofs.lemmas.List.Sums.{sum_by-append}
use Rattle.feed_kbart.specs.Entries.{AreSorted}
use Rattle.feed_kbart.specs.Index.{AreIndexed, HasIdentifiers, IsIndexOf, each_once, entries_from, entries_of}
use Rattle.feed_kbart.specs.Runs.{HasEntries, weight_of}
use Rattle.feed_identifiers.specs.Identifier.{IsIdentifier, identifier_eq, key_of}
use Rattle.feed_identifiers.specs.Laws.{OneIdentifierForKey}
use Rattle.feed_identifiers.specs.declared.identifier.Identifier.{Identifier}
use Rattle.feed_identifiers.specs.declared.identifier.Identifier.TheVariants.{Issn, Isbn}
use Rattle.feed_kbart.specs.Identifiers.{AreIdentifiers, numbers}
use Rattle.feed_kbart.specs.Places.{has_identifier, is_same_identifier, place_by, places_by}
use Rattle.feed_kbart.specs.declared.identifiers.Identifiers.{Identifiers}
use Rattle.feed_kbart.specs.RowValue.{RowValue}
use Rattle.feed_kbart.specs.declared.entry.Entry.{Entry}
use Rattle.feed_kbart.specs.declared.index.Index.{Index}
use Rattle.feed_kbart.specs.declared.index_builder.IndexBuilder.{IndexBuilder}
use Rattle.feed_kbart.proofs.Columns.{beside_entries, column_ascends}
use Rattle.feed_kbart.proofs.Ordered.{in_file_order, numbered, numbers_ascend, placed}

one : (n place m : ℕ) (xs : List ℕ) → placed n (numbered place (m ∷ [])) ++ xs ≡ cons_option (if eqb m n then Some place else None) xs
one n place m xs = elim (eqb m n) as (λ b. eqb m n ≡ b → placed n (numbered place (m ∷ [])) ++ xs ≡ cons_option (if b then Some place else None) xs) [
  | true ↦ λ e. rw e refl
  | false ↦ λ e. rw e refl
] refl

same_at : (k m n : ℕ) → eqb k m ≡ true → eqb m n ≡ eqb k n
same_at k m n e = grind (arith, nat_tests)

both_at : (k m n : ℕ) → eqb k m ≡ false → eqb k n ≡ true → eqb m n ≡ false
both_at k m n e f = grind (arith, nat_tests)

or_itself : (b : Bool) → (b || b) ≡ b
or_itself true = refl
or_itself false = refl

two : (n place k m : ℕ) (xs : List ℕ) → placed n (numbered place (each_once (Some k) (Some m))) ++ xs ≡ cons_option (if eqb k n || eqb m n then Some place else None) xs
two n place k m xs = go (eqb k m) (eqb k n) (eqb m n) refl refl refl
  where
    go : (s a b : Bool) → eqb k m ≡ s → eqb k n ≡ a → eqb m n ≡ b
        → placed n (numbered place (each_once (Some k) (Some m))) ++ xs ≡ cons_option (if eqb k n || eqb m n then Some place else None) xs
    go true a b s e f = rw (s, same_at k m n s, or_itself (eqb k n)) (one n place k xs)
    go false true true s e f = absurd (cc (both_at k m n s e))
    go false true false s e f = rw (s, e, f) refl
    go false false true s e f = rw (s, e, f) refl
    go false false false s e f = rw (s, e, f) refl

identifier_same : (one other : Identifier) → identifier_eq one other ≡ true → one ≡ other
identifier_same (Issn one) (Issn other) e = ap Issn ((bytes_decides one other).0 e)
identifier_same (Isbn one) (Isbn other) e = ap Isbn ((bytes_decides one other).0 e)
identifier_same (Issn one) (Isbn other) e = absurd (cc)
identifier_same (Isbn one) (Issn other) e = absurd (cc)

identifier_itself : (one : Identifier) → identifier_eq one one ≡ true
identifier_itself (Issn one) = (bytes_decides one one).1 refl
identifier_itself (Isbn one) = (bytes_decides one one).1 refl

-- two identifiers are the same exactly if their keys are, since the keys determine them
same_test : OneIdentifierForKey → (one own : Identifier) → IsIdentifier one → IsIdentifier own → identifier_eq one own ≡ eqb (key_of own) (key_of one)
same_test tells one own i j =
    elim (eqb (key_of own) (key_of one)) as (λ b. eqb (key_of own) (key_of one) ≡ b → identifier_eq one own ≡ b) [
      | true ↦ λ e. (let same : key_of own ≡ key_of one = grind (arith, nat_tests) in ap (identifier_eq one) (tells own one j i same) ∙ identifier_itself one)
      | false ↦ λ e. no (identifier_eq one own) refl e
    ] refl
  where
    itself : (n : ℕ) → eqb n n ≡ true
    itself n = grind (arith, nat_tests)

    no : (b : Bool) → identifier_eq one own ≡ b → eqb (key_of own) (key_of one) ≡ false → b ≡ false
    no true same differ =
        let eq = ap key_of (identifier_same one own same) in
        sym (itself (key_of own)) ∙ rw eq at differ
    no false same differ = refl

or_false : (b : Bool) → (b || false) ≡ b
or_false true = refl
or_false false = refl

-- a row's place is among the entries of an identifier exactly if it has the identifier
own_placed : OneIdentifierForKey → (one : Identifier) → IsIdentifier one → (place : ℕ) (own : Identifiers) (xs : List ℕ) → AreIdentifiers own
    → placed (key_of one) (numbered place (each_once (numbers own).0 (numbers own).1)) ++ xs
    ≡ cons_option (if is_same_identifier one own.print || is_same_identifier one own.online then Some place else None) xs
own_placed tells identifier i place own xs are = go own.print own.online are.0 are.1
  where
    go : (print online : Option Identifier) → IfSome print IsIdentifier → IfSome online IsIdentifier
        → placed (key_of identifier) (numbered place (each_once (option_map key_of print) (option_map key_of online))) ++ xs
        ≡ cons_option (if is_same_identifier identifier print || is_same_identifier identifier online then Some place else None) xs
    go None None p o = refl
    go None (Some online) p o = rw (same_test tells identifier online i o) (one (key_of identifier) place (key_of online) xs)
    go (Some print) None p o =
        rw (same_test tells identifier print i p, or_false (eqb (key_of print) (key_of identifier))) (one (key_of identifier) place (key_of print) xs)
    go (Some print) (Some online) p o =
        rw (same_test tells identifier print i p, same_test tells identifier online i o) (two (key_of identifier) place (key_of print) (key_of online) xs)

placed_append : (n : ℕ) (es fs : List Entry) → placed n (es ++ fs) ≡ placed n es ++ placed n fs
placed_append n es fs = ap (map (λ e. e.place)) (filter-append (λ (e : Entry). eqb e.number n) es fs) ∙ map-append (λ (e : Entry). e.place) _ _

-- a row's place is among the entries with a number exactly if it passes the test
abbrev IsTold : ℕ → (RowValue → Bool) → Type 0
IsTold n test = (place : ℕ) (row : RowValue) (xs : List ℕ) → HasIdentifiers row
    → placed n (entries_of place row.identifiers) ++ xs ≡ cons_option (if test row then Some place else None) xs

rows_placed : (n : ℕ) (test : RowValue → Bool) (place : ℕ) (rows : List RowValue) → IsTold n test → All HasIdentifiers rows
    → placed n (entries_from place rows) ≡ filter_map (place_by test) (enumerate_from place rows)
rows_placed n test place [] told all = refl
rows_placed n test place (row ∷ rows) told all =
    let has : HasIdentifiers row = all 0 row (omega arith) in
    placed_append n (entries_of place row.identifiers) (entries_from (place + 1) rows)
    ∙ ap (λ xs. placed n (entries_of place row.identifiers) ++ xs) (rows_placed n test (place + 1) rows told (λ k d within. all (suc k) d (omega (arith, within))))
    ∙ told place row (filter_map (place_by test) (enumerate_from (place + 1) rows)) has

pub entries_from-append : (place : ℕ) (front back : List RowValue) → entries_from place (front ++ back) ≡ entries_from place front ++ entries_from (place + length front) back
entries_from-append place [] back =
    let same : place + 0 ≡ place = omega arith in
    rw same refl
entries_from-append place (row ∷ front) back =
    let same : place + length (row ∷ front) ≡ (place + 1) + length front = omega arith in
    rw (same, entries_from-append (place + 1) front back)
    (sym (append_assoc (entries_of place row.identifiers) (entries_from (place + 1) front) (entries_from ((place + 1) + length front) back)))

-- a row is added
pub row_indexed : (rows : List RowValue) (row : RowValue) (old new : IndexBuilder) → new.runs ≡ old.runs
    → new.recent.items ≡ old.recent.items ++ entries_of old.next row.identifiers → new.next ≡ old.next + 1 → HasIdentifiers row
    → AreIndexed rows old → AreIndexed (rows ++ row ∷ []) new
row_indexed rows row old new runs recent next has is = record {
  next = omega (arith, next, is.next, length-append rows (row ∷ []));
  same = λ weight. omega (
    arith,
    ap (weight_of weight) runs,
    ap (sum_by weight) recent,
    is.same weight,
    ap (λ place. sum_by weight (entries_of place row.identifiers)) is.next,
    sum_by-append weight old.recent.items (entries_of old.next row.identifiers),
    ap (sum_by weight) (entries_from-append 0 rows (row ∷ [])),
    sum_by-append weight (entries_from 0 rows) (entries_from (0 + length rows) (row ∷ [])),
    last weight,
  );
  printed = All-append HasIdentifiers rows (row ∷ []) is.printed (All-one row has);
}
  where
    All-one : (row : RowValue) → HasIdentifiers row → All HasIdentifiers (row ∷ [])
    All-one row has zero d h = has
    All-one row has (suc k) d h = absurd (omega (arith, h))

    last : (weight : Entry → ℕ) → sum_by weight (entries_from (0 + length rows) (row ∷ [])) ≡ sum_by weight (entries_of (length rows) row.identifiers)
    last weight =
        let same : 0 + length rows ≡ length rows = omega arith in
        rw same (ap (sum_by weight) (append-nil (entries_of (length rows) row.identifiers)))

-- sorted entries that are those of rows have the places of the rows that pass a test
sorted_placed : (n : ℕ) (test : RowValue → Bool) (rows : List RowValue) (sorted : List Entry) → IsTold n test → All HasIdentifiers rows
    → ((weight : Entry → ℕ) → sum_by weight sorted ≡ sum_by weight (entries_from 0 rows)) → AreSorted sorted → placed n sorted ≡ places_by test rows
unfolding places_by
sorted_placed n test rows sorted told all same up = in_file_order n rows sorted same up ∙ rows_placed n test 0 rows told all

-- their columns are an index
pub indexed : OneIdentifierForKey → (rows : List RowValue) (index : Index) (total : (Entry → ℕ) → ℕ) → length rows ≤ 4294967296 → All HasIdentifiers rows
    → HasEntries total index → ((weight : Entry → ℕ) → total weight ≡ sum_by weight (entries_from 0 rows)) → IsIndexOf rows index
indexed tell rows index total few all has whole = record {
  table = record {
    even = rw (has.numbers, has.places) (length-map has.entries (λ (e : Entry). e.place) ∙ sym (length-map has.entries (λ (e : Entry). e.number)));
    ascending = rw has.numbers (column_ascends has.entries (numbers_ascend rows has.entries few same has.sorted));
  };
  places = λ one i. rw (has.numbers, has.places) (beside_entries (key_of one) has.entries
      ∙ sorted_placed (key_of one) (has_identifier one) rows has.entries (λ place row xs has. own_placed tell one i place row.identifiers xs has) all same has.sorted);
}
  where
    same : (weight : Entry → ℕ) → sum_by weight has.entries ≡ sum_by weight (entries_from 0 rows)
    same weight = has.same weight ∙ whole weight
