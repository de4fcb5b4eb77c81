use Rattle.csv.specs.Records.{fields_of}
use Rattle.feed_kbart.proofs.Drafts.{drafted}
use Rattle.feed_kbart.proofs.row_store.RowStoreKeepRows.add.Goals as goal

pub returns : goal.returns
returns c rows are more =
    let store = c.make_room.new.self in
    rw (c.in_ok-push.ensures.items, c.in_ok-put_cells.ensures.added, c.len-start.ensures)
    (drafted rows store store.block.len c.args.columns.now c.args.number (fields_of c.args.fields.now) store.block.ok.0
    (c.in_ok-make_room.ensures.same rows are) c.in_ok-put_cells.ensures.short more)
