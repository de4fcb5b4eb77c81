use Rattle.std.proofs.Common.{◌≡◌, ◌≤◌, ◌+◌, ◌-◌, min}
use Rattle.std.specs.Prelude.{count_by, nat_lt, sum_by}
use Rattle.node_resolver.specs.Answers.{row_counts}
use Rattle.node_resolver.proofs.Shared.{counts_from}
use Rattle.node_resolver.proofs.shares.left_by.Given as goal

-- what is left is what the releases that are left leave of it
abbrev pub invariant-loop-active : goal.invariant-loop-active
invariant-loop-active l =
    (l.left ≤ 5000)
    × (l.left - sum_by (λ rows. min l.share rows) (counts_from l.context.site.library l.query l.active-index l.context.actives.actives)
    ≡ 5000 - sum_by (λ rows. min l.share rows) (row_counts l.context.site.library l.query l.context.actives.actives))
    × (l.above + count_by (λ rows. nat_lt l.share rows) (counts_from l.context.site.library l.query l.active-index l.context.actives.actives)
    ≡ count_by (λ rows. nat_lt l.share rows) (row_counts l.context.site.library l.query l.context.actives.actives))
    × (l.above ≤ l.active-index)
