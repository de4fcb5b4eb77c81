use Rattle.feed_store_write.proofs.Recognised.{no-table}
use Rattle.feed_store_write.proofs.schema.has_no_table.Goals as goal

pub returns : goal.returns
returns c =
    no-table c.args.schema.now c.is_empty.result c.is_empty-2.result c.is_empty-3.result c.is_empty.ensures c.is_empty-2.ensures c.is_empty-3.ensures
