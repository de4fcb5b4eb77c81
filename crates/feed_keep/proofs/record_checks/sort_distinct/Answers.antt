use Rattle.std.proofs.Common.{rules}
use Rattle.std.specs.Ordering.{int_cmp, is_lt}
use Rattle.std.proofs.lemmas.Cmp.{int_cmp_total}
use Rattle.std.proofs.lemmas.Fn.{always_returns_same}
use Rattle.std.proofs.lemmas.List.Sorted.{IsPermutation-sym}
use Rattle.feed_keep.proofs.Strict.{answered_strict, apart_moved, apart_of, strict_of}
use Rattle.feed_keep.proofs.record_checks.sort_distinct.Goals as goal

pub returns : goal.returns
returns c =
    let old = c.args.ids.now in
    let new = c.sort_unstable.new.self in
    let looked = c.is_sorted_by.ensures.cases (λ x y. is_lt (int_cmp x y)) (always_returns_same _ _ _ (λ a r q k. search rules)) in
    let both = answered_strict int_cmp int_cmp_total new c.is_sorted_by.result looked in (
      λ yes. apart_moved int_cmp int_cmp_total new old (IsPermutation-sym old new c.sort_unstable.ensures.permutation) (apart_of int_cmp int_cmp_total new (both.0 yes)),
      λ d. both.1 (strict_of int_cmp int_cmp_total new c.sort_unstable.ensures.sorted (apart_moved int_cmp int_cmp_total old new c.sort_unstable.ensures.permutation d)),
    )
