use Rattle.std.proofs.Common.{◌≡◌, ◌≤◌, ◌+◌, ◌-◌, max, ℕ, ltb, true, false, length, take, drop}
use Rattle.std.proofs.Common.{take-append-drop, length-take, length-drop, IsPermutation, sym, subst, rules, arith}
use Rattle.std.specs.List.Sorted.{IsPartitionPoint, IsNonDecreasingBy}
use Rattle.std.proofs.lemmas.List.{take_all}
use Rattle.std.proofs.lemmas.List.Sorted.{IsPermutation-refl, IsPermutation-trans, IsPermutation-put_mid, IsPartitionPoint-from_clause, IsPartitionedBy-ltb, IsNonDecreasingBy-from_sort_by_key}
use borrow.Rule.Slice.PartMut.{put_mid}
use Rattle.feed_parts.proofs.Runs.{turned_is, after_turn, sorted_part, after_sort, rise_runs, run_head, run_last, max_cases, tests_pass, tests_fail}
use Rattle.feed_parts.proofs.merging.merge_runs.Goals as goal
use Rattle.feed_parts.proofs.merging.merge_runs.Goals.{After-partition_point-begin, After-partition_point}

split_begin : (c : After-partition_point-begin)
    → IsPartitionPoint (λ p. ltb p.first c.index-parts-kept.result.first ≡ true) (λ p. ltb p.first c.index-parts-kept.result.first ≡ false)
    (take c.args.kept c.args.parts.now) c.partition_point-begin.result
split_begin c =
    IsPartitionPoint-from_clause (λ p. ltb p.first c.index-parts-kept.result.first) (take c.args.kept c.args.parts.now) c.partition_point-begin.result c.partition_point-begin.ensures.partitioned
    (IsPartitionedBy-ltb (λ p. p.first) (take c.args.kept c.args.parts.now) c.index-parts-kept.result.first c.requires.front)
    (λ a r q k. search rules)

split_end : (c : After-partition_point)
    → IsPartitionPoint (λ p. ltb p.first c.index-parts-kept-2.result.first ≡ true) (λ p. ltb p.first c.index-parts-kept-2.result.first ≡ false)
    (take c.args.kept c.args.parts.now) c.partition_point.result
split_end c = IsPartitionPoint-from_clause (λ p. ltb p.first c.index-parts-kept-2.result.first) (take c.args.kept c.args.parts.now) c.partition_point.result c.partition_point.ensures.partitioned
    (IsPartitionedBy-ltb (λ p. p.first) (take c.args.kept c.args.parts.now) c.index-parts-kept-2.result.first c.requires.front)
    (λ a r q k. search rules)

pub returns-then-count-eq0 : goal.returns-then-count-eq0
returns-then-count-eq0 c = record {
  permutation = IsPermutation-refl c.args.parts.now;
  sorted = subst (IsNonDecreasingBy (λ p. p.first)) (take_all c.args.kept c.args.parts.now (omega arith)) c.requires.front;
}

pub returns : goal.returns
returns c =
    let parts = c.args.parts.now in
    let kept = c.args.kept in
    let ps = take kept parts in
    let qs = drop kept parts in
    let count : ℕ = length parts - kept in
    let begin : ℕ = c.partition_point-begin.result in
    let low : ℕ = c.partition_point.result in
    let end : ℕ = c.max-end.result in
    let turned = c.rotate_right.new.self in
    let sorted = c.sort_unstable_by_key.new.self in
    let from : ℕ = c.index-parts-kept.result.first in
    let to : ℕ = c.index-parts-kept-2.result.first in
    let k : ℕ = (end + count) - begin in
    let ys = put_mid end (length parts - end) parts turned in
    let split = split_begin (goal.at.returns c).After-partition_point-begin in
    let split' = split_end (goal.at.returns c).After-partition_point in
    let joined = sym (take-append-drop kept parts) in
    let front_len : length ps ≡ kept = omega (arith, length-take kept parts) in
    let back_len : length qs ≡ count = omega (arith, length-drop kept parts) in
    let most : end ≡ max low begin = c.max-end.ensures in
    let order : begin ≤ end = omega (arith, most) in
    let inside : end ≤ length ps = omega (arith, most, c.partition_point-begin.ensures.bound, c.partition_point.ensures.bound) in
    let is = after_turn parts ps qs joined begin end order inside turned (turned_is parts ps qs joined begin end order inside count (sym back_len) turned c.rotate_right.ensures.after) in
    let length_is : k ≡ (end + length qs) - begin = omega (arith, back_len) in
    let part = sorted_part parts ps qs joined begin end order inside ys is k length_is in
    let result = after_sort parts ps qs joined begin end order inside ys sorted is k length_is in
    let rise = rise_runs (λ p. p.first) ps qs sorted begin low end from to c.requires.front
    (subst (λ xs. IsPermutation xs sorted) part c.sort_unstable_by_key.ensures.permutation)
    (IsNonDecreasingBy-from_sort_by_key (λ p. p.first) sorted c.sort_unstable_by_key.ensures.sorted (λ a r q f. search rules))
    (run_head (λ p. p.first) kept parts c.index-parts-kept.result (omega arith) c.index-parts-kept.is c.requires.back)
    (run_last (λ p. p.first) kept ((kept + count) - 1) parts c.index-parts-kept-2.result (omega arith) (omega arith) c.index-parts-kept-2.is c.requires.back)
    inside (max_cases end low begin most) order (omega (arith, most))
    (tests_pass (λ p. p.first) from 0 begin ps split.0) (tests_fail (λ p. p.first) from begin (length ps) ps split.1)
    (tests_pass (λ p. p.first) to 0 low ps split'.0) (tests_fail (λ p. p.first) to low (length ps) ps split'.1) in
    record {
      permutation = IsPermutation-trans parts ys (put_mid begin k ys sorted)
          (IsPermutation-put_mid end (length parts - end) parts turned c.rotate_right.ensures.permutation)
          (IsPermutation-put_mid begin k ys sorted c.sort_unstable_by_key.ensures.permutation);
      sorted = subst (IsNonDecreasingBy (λ p. p.first)) (sym result) rise;
    }
