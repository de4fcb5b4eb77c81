use Rattle.std.proofs.Common.{rules}
use Rattle.std.proofs.lemmas.List.Sorted.{IsPermutation-trans}
use Rattle.std.proofs.lemmas.Result.{on_ok_weaker}
use Rattle.cmd_report.proofs.Merging.{sorted_by}
use Rattle.cmd_report.proofs.pairing.sort.Goals as goal

pub returns-clause-permutation : goal.returns-clause-permutation
returns-clause-permutation c =
    IsPermutation-trans c.args.rows.now.items c.sort_by_key.new.self.items c.sort_by.new.self.items c.sort_by_key.ensures.permutation c.sort_by.ensures.permutation

pub returns-clause-sorted : goal.returns-clause-sorted
returns-clause-sorted c =
    on_ok_weaker c.sort_by.result (λ up. sorted_by c.args.by c.sort_by.new.self.items up (λ a o f k. search rules)) c.sort_by.ensures.sorted
