use Rattle.std.proofs.Common.{rules}
use Rattle.std.proofs.lemmas.List.Sorted.{IsNonDecreasingBy-from_sort_by_key, sum_by-IsPermutation}
use Rattle.feed_kbart.specs.Entries.{key_of}
use Rattle.feed_kbart.proofs.run.Run.of.Goals as goal

pub invariant_of-result : goal.invariant_of-result
invariant_of-result c = record {
  sorted = IsNonDecreasingBy-from_sort_by_key key_of _ c.sort_unstable_by_key.ensures.sorted (λ a r q k. search rules);
}

pub returns : goal.returns
returns c weight = sum_by-IsPermutation weight _ _ c.sort_unstable_by_key.ensures.permutation
