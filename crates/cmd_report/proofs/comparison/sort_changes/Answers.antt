use Rattle.std.proofs.Common.{rules}
use Rattle.std.proofs.lemmas.List.Sorted.{IsNonDecreasingBy-from_sort_by_key}
use Rattle.std.proofs.lemmas.Result.{on_ok_weaker}
use Rattle.cmd_report.specs.declared.comparison.RowChange.{RowChange}
use Rattle.cmd_report.proofs.comparison.sort_changes.Goals as goal

pub returns-clause-order : goal.returns-clause-order
returns-clause-order c =
    on_ok_weaker c.sort_by_key.result
    (λ up. IsNonDecreasingBy-from_sort_by_key (λ (change : RowChange). change.old.now.number) c.sort_by_key.new.self.items up (λ a r f k. search rules)) c.sort_by_key.ensures.sorted
