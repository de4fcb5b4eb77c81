use Rattle.std.proofs.Common.{◌≡◌, ◌<◌, ◌≤◌, ◌+◌, ℕ, List, [], ◌∷◌, length, get_or, ap, arith, refl, sum_by}
use Rattle.std.proofs.lemmas.List.Sums.{sum_by-cons}
use Rattle.std.proofs.lemmas.Result.{IfOk-weaker}
use Rattle.feed_kbart.specs.Runs.{HasEntries, run_weight, weight_of}
use Rattle.feed_kbart.specs.declared.entry.Entry.{Entry}
use Rattle.feed_kbart.specs.declared.index.Index.{Index}
use Rattle.feed_kbart.specs.declared.run.Run.{Run}
use Rattle.feed_kbart.proofs.runs.Runs.finish.Goals as goal

other_total : (one other : (Entry → ℕ) → ℕ) (index : Index) → ((weight : Entry → ℕ) → one weight ≡ other weight) → HasEntries one index → HasEntries other index
other_total one other index same has = record {
  entries = has.entries;
  sorted = has.sorted;
  numbers = has.numbers;
  places = has.places;
  same = λ weight. omega (arith, has.same weight, same weight);
}

of_two : (f : Run → ℕ) (runs : List Run) (left right : Run) → 2 ≤ length runs → length runs ≤ 2 → left ≡ get_or runs 0 left → right ≡ get_or runs 1 right
    → f left + f right ≡ sum_by f runs
of_two f [] left right least most l r = absurd (omega (arith, least))
of_two f (a ∷ []) left right least most l r = absurd (omega (arith, least))
of_two f (a ∷ b ∷ []) left right least most l r = omega (arith, ap f l, ap f r, sum_by-cons f a (b ∷ []), sum_by-cons f b [])
of_two f (a ∷ b ∷ c ∷ runs) left right least most l r = absurd (omega (arith, most))

of_one : (f : Run → ℕ) (runs : List Run) (run : Run) → 1 ≤ length runs → length runs < 2 → run ≡ get_or runs 0 run → f run ≡ sum_by f runs
of_one f [] run least most is = absurd (omega (arith, least))
of_one f (a ∷ []) run least most is = omega (arith, ap f is, sum_by-cons f a [])
of_one f (a ∷ b ∷ runs) run least most is = absurd (omega (arith, most))

of_none : (f : Run → ℕ) (runs : List Run) → length runs < 1 → sum_by f runs ≡ 0
of_none f [] few = refl
of_none f (a ∷ runs) few = absurd (omega (arith, few))

pub returns-in-len1 : goal.returns-in-len1
returns-in-len1 c =
    let own = λ (weight : Entry → ℕ). run_weight weight c.run-item.result + run_weight weight c.of-none.result in
    IfOk-weaker c.of-in-len1.result (HasEntries own) (HasEntries (λ weight. weight_of weight c.args.self)) (λ index. other_total own (λ weight. weight_of weight c.args.self) index (λ weight.
    let f = run_weight weight in
    omega (
      arith,
      c.loop-waiting.invariant weight,
      c.of-none.ensures weight,
      ap (sum_by weight) c.new-2.ensures.items,
      ap (sum_by f) c.as_slice.ensures.value,
      of_one f c.as_slice.result.now c.run-item.result c.in-len1.len_at_least c.in-len1.len_below c.run-item.is,
    ))) c.of-in-len1.ensures

pub returns-in-len2-up : goal.returns-in-len2-up
returns-in-len2-up c =
    let own = λ (weight : Entry → ℕ). run_weight weight c.left-item.result + run_weight weight c.right-item.result in
    IfOk-weaker c.of-in-len2-up.result (HasEntries own) (HasEntries (λ weight. weight_of weight c.args.self)) (λ index. other_total own (λ weight. weight_of weight c.args.self) index (λ weight.
    let f = run_weight weight in
    let few : length c.as_slice.result.now ≤ 2 = omega (arith, c.as_slice.ensures.len, c.len.ensures, c.loop-waiting-test.false) in
    omega (
      arith,
      c.loop-waiting.invariant weight,
      ap (sum_by f) c.as_slice.ensures.value,
      of_two f c.as_slice.result.now c.left-item.result c.right-item.result c.in-len2-up.len_at_least few c.left-item.is c.right-item.is,
    ))) c.of-in-len2-up.ensures

pub returns : goal.returns
returns c =
    let own = λ (weight : Entry → ℕ). run_weight weight c.of-none.result + run_weight weight c.of-none.result in
    IfOk-weaker c.of.result (HasEntries own) (HasEntries (λ weight. weight_of weight c.args.self)) (λ index. other_total own (λ weight. weight_of weight c.args.self) index (λ weight.
    let f = run_weight weight in
    omega (
      arith,
      c.loop-waiting.invariant weight,
      c.of-none.ensures weight,
      ap (sum_by weight) c.new-2.ensures.items,
      ap (sum_by f) c.as_slice.ensures.value,
      of_none f c.as_slice.result.now c.in-empty.len_below,
    ))) c.of.ensures
