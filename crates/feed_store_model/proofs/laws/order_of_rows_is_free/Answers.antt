use Rattle.feed_store_model.proofs.AnyOrder.{any_order}
use Rattle.feed_store_model.proofs.laws.order_of_rows_is_free.Goals as goal

pub returns : goal.returns
returns c = any_order
