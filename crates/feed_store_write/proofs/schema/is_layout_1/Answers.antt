use Rattle.feed_store_write.proofs.Recognised.{is-layout-1}
use Rattle.feed_store_write.proofs.schema.is_layout_1.Goals as goal

pub returns : goal.returns
returns c =
    is-layout-1 c.args.schema.now c.are_layout_1_tables.result c.are_layout_1_indexes.result c.is_empty.result c.are_layout_1_tables.ensures c.are_layout_1_indexes.ensures c.is_empty.ensures
