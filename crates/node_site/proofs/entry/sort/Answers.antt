use Rattle.std.proofs.Common.{rules}
use Rattle.std.proofs.lemmas.List.Sorted.{sum_by-IsPermutation}
use Rattle.node_site.proofs.HoldingsKeys.{sorted_by}
use Rattle.node_site.proofs.entry.sort.Goals as goal

pub returns-clause-same : goal.returns-clause-same
returns-clause-same c weight = sum_by-IsPermutation weight _ _ c.sort_unstable_by.ensures.permutation

pub returns-clause-sorted : goal.returns-clause-sorted
returns-clause-sorted c = sorted_by c.args.text.now _ c.sort_unstable_by.ensures.sorted (λ a o f k. search rules)
