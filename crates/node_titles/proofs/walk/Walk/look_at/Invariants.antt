use Rattle.std.proofs.Common.{◌≡◌, drop, map}
use Rattle.std.specs.Prelude.{fold}
use Rattle.node_titles.specs.Titles.{entry_of, is_found}
use Rattle.node_titles.specs.Walks.{with_row}
use Rattle.node_titles.proofs.walk.Walk.look_at.Given as goal

-- the walk so far, over the rows that are left, is the walk over all
abbrev pub invariant-loop-row : goal.invariant-loop-row
invariant-loop-row l =
    fold (with_row (is_found l.site l.finder)) l.self (map (entry_of l.name) (drop l.row-index l.rows))
    ≡ fold (with_row (is_found l.site l.finder)) l.fn.self (map (entry_of l.name) l.rows)
