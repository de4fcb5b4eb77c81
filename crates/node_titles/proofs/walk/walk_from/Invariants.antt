use Rattle.std.proofs.Common.{◌≡◌, drop}
use Rattle.std.specs.Prelude.{fold}
use Rattle.node_titles.specs.Titles.{is_found}
use Rattle.node_titles.specs.Walks.{rows_among, walk_from, with_row}
use Rattle.node_titles.proofs.Steps.{rows_behind}
use Rattle.node_titles.proofs.walk.walk_from.Given as goal

-- the walk so far, over the rows that are left, is the walk over all
abbrev pub invariant-loop-active : goal.invariant-loop-active
invariant-loop-active l =
    fold (with_row (is_found l.site l.finder)) l.walk (rows_behind l.skip (drop l.active-index l.actives))
    ≡ walk_from (is_found l.site l.finder) l.start (rows_among l.actives)
