-- Rows are counted by the first identifiers that have as many as are counted.
use Rattle.std.proofs.Common.{◌≡◌, ◌≤◌, ℕ, zero, suc, Bool, true, false, List, [], ◌∷◌, Some, sym, ap, ◌∙◌, arith, length, min, take, drop, take-append-drop, length-take}
use Rattle.std.specs.Prelude.{◌==◌, if◌then◌else◌, nat_lt}
use Rattle.std.proofs.lemmas.List.Sums.{fold-append}
use Rattle.feed_identifiers.specs.declared.identifier.Identifier.{Identifier}
use Rattle.feed_kbart.specs.Places.{places_having}
use Rattle.feed_kbart.specs.RowValue.{RowValue}
use Rattle.feed_answer.specs.QueryValue.{QueryValue, asked}
use Rattle.node_hits.specs.Looks.{asked_places}
use Rattle.node_hits.specs.Merging.{merged, with_each}
use Rattle.node_hits.proofs.Merged.{asked_are, merged_by}

-- a list is no shorter with the places of another
merged_long : (n : ℕ) (xs ys : List ℕ) → min n (length xs) ≤ length (merged n xs ys)
merged_long zero xs ys = omega arith
merged_long (suc n) [] [] = omega arith
merged_long (suc n) [] (y ∷ ys) = omega arith
merged_long (suc n) (x ∷ xs) [] = let rest = merged_long n xs [] in omega (arith, rest)
merged_long (suc n) (x ∷ xs) (y ∷ ys) = go (nat_lt x y) (x == y) (merged_long n xs (y ∷ ys)) (merged_long n xs ys) (merged_long n (x ∷ xs) ys)
  where
    go : (p q : Bool) → min n (length xs) ≤ length (merged n xs (y ∷ ys)) → min n (length xs) ≤ length (merged n xs ys)
        → min n (suc (length xs)) ≤ length (merged n (x ∷ xs) ys)
        → min (suc n) (suc (length xs)) ≤ length (merged_by n (if p then Some (x, xs, y ∷ ys) else (if q then Some (x, xs, ys) else Some (y, x ∷ xs, ys))))
    go true q less same more = omega (arith, less)
    go false true less same more = omega (arith, same)
    go false false less same more = omega (arith, more)

full_each : (limit : ℕ) (rows : List RowValue) (places : List ℕ) (identifiers : List Identifier)
    → limit ≤ length places → limit ≤ length (with_each limit rows places identifiers)
full_each limit rows places [] full = full
full_each limit rows places (one ∷ others) full =
    let long = merged_long limit places (places_having one rows) in
    full_each limit rows (merged limit places (places_having one rows)) others (omega (arith, long, full))

module _ (query : QueryValue) (rows : List RowValue) (limit : ℕ) where
  abbrev whole : ℕ
  whole = min limit (length (asked_places query rows))

  -- those of all identifiers
  pub all_counted : (places : List ℕ) → places ≡ with_each limit rows [] (asked query) → length places ≡ whole
  all_counted places is = ap length (is ∙ asked_are query limit rows) ∙ length-take limit (asked_places query rows)

  -- those of the first ones
  pub full_counted : (i : ℕ) (places : List ℕ) → places ≡ with_each limit rows [] (take i (asked query)) → limit ≤ length places → limit ≡ whole
  full_counted i places is full =
      let all : List ℕ = with_each limit rows places (drop i (asked query)) in
      let long = full_each limit rows places (drop i (asked query)) full in
      let same : all ≡ with_each limit rows [] (asked query) =
      ap (λ l. with_each limit rows l (drop i (asked query))) is
      ∙ sym (fold-append (λ some one. merged limit some (places_having one rows)) [] (take i (asked query)) (drop i (asked query)))
      ∙ ap (with_each limit rows []) (take-append-drop i (asked query)) in
      let count = all_counted all same in
      omega (arith, long, count)
