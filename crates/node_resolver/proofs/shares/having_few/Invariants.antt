use Rattle.std.proofs.Common.{◌≡◌, ◌≤◌, ◌+◌}
use Rattle.std.specs.Prelude.{sum}
use Rattle.node_hits.specs.Shares.{having_rows}
use Rattle.node_resolver.specs.Answers.{row_counts}
use Rattle.node_resolver.proofs.Shared.{counts_from}
use Rattle.node_resolver.proofs.shares.having_few.Given as goal

-- the rows so far are few, and with those of the releases that are left they are all
abbrev pub invariant-loop-active : goal.invariant-loop-active
invariant-loop-active l =
    (l.rows ≤ 5000)
    × (l.rows + sum (counts_from l.context.site.library l.query l.active-index l.context.actives.actives)
    ≡ sum (row_counts l.context.site.library l.query l.context.actives.actives))
    × (l.releases + having_rows (counts_from l.context.site.library l.query l.active-index l.context.actives.actives)
    ≡ having_rows (row_counts l.context.site.library l.query l.context.actives.actives))
    × (l.releases ≤ l.active-index)
