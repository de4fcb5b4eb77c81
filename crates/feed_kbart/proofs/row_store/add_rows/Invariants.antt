use Rattle.std.proofs.Common.{◌≡◌, ◌++◌, map, take}
use Rattle.std.specs.Rc.{rc_slice_items}
use Rattle.feed_kbart.specs.Store.{row_in}
use Rattle.feed_kbart.proofs.row_store.add_rows.Given as goal

-- the drafts so far are rows
abbrev pub invariant-loop-draft : goal.invariant-loop-draft
invariant-loop-draft l = l.rows.items ≡ l.fn.rows.items ++ map (row_in (rc_slice_items l.block)) (take l.draft-index l.drafts)
