use Rattle.cmd_report.proofs.Composing.{compared}
use Rattle.cmd_report.proofs.comparison.compare.Goals as goal

-- the rows that two sorted lists do not share, in pairs and in file order
pub returns : goal.returns
returns c =
    compared c.args.old.now c.args.new.now c.in_ok-removed.removed.items c.sort_changes.new.changes.items c.in_ok-added.added.items
    record {
      old_list = c.in_ok-old_rows.old_rows.items;
      new_list = c.in_ok-new_rows.new_rows.items;
      equal = c.in_ok-old.field-0;
      changes = c.in_ok-pairs.field-0;
      old_shown = c.in_ok-old_rows.ensures;
      new_shown = c.in_ok-new_rows.ensures;
      equal_is = c.in_ok-old.ensures;
      changes_are = c.in_ok-pairs.ensures;
      removed_moved = rw c.deref.ensures.value at c.in_ok-removed.ensures.permutation;
      changed_moved = c.sort_changes.ensures.permutation;
      added_moved = rw c.deref-2.ensures.value at c.in_ok-added.ensures.permutation;
      removed_up = c.in_ok-removed.ensures.order;
      changed_up = c.in_ok-sort_changes.ensures.order;
      added_up = c.in_ok-added.ensures.order;
    }
