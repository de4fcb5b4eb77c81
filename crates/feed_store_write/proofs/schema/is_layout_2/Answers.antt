use Rattle.feed_store_write.proofs.Recognised.{is-layout-2}
use Rattle.feed_store_write.proofs.schema.is_layout_2.Goals as goal

pub returns : goal.returns
returns c =
    is-layout-2 c.args.schema.now c.are_layout_2_tables.result c.are_layout_2_indexes.result c.is_empty.result c.are_layout_2_tables.ensures c.are_layout_2_indexes.ensures c.is_empty.ensures
