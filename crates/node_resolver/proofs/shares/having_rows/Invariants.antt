use Rattle.std.proofs.Common.{◌≡◌, ◌≤◌, ◌+◌}
use Rattle.node_hits.specs.Shares.{having_rows}
use Rattle.node_resolver.specs.Answers.{row_counts}
use Rattle.node_resolver.proofs.Shared.{counts_from}
use Rattle.node_resolver.proofs.shares.having_rows.Given as goal

-- the releases so far, with those that are left, are all
abbrev pub invariant-loop-active : goal.invariant-loop-active
invariant-loop-active l =
    (l.releases + having_rows (counts_from l.context.site.library l.query l.active-index l.context.actives.actives)
    ≡ having_rows (row_counts l.context.site.library l.query l.context.actives.actives))
    × (l.releases ≤ l.active-index)
