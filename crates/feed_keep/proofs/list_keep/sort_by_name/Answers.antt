use Rattle.std.proofs.Common.{rules}
use Rattle.feed_keep.proofs.Order.{order_of_sort}
use Rattle.feed_keep.proofs.list_keep.sort_by_name.Goals as goal

pub returns-clause-order : goal.returns-clause-order
returns-clause-order c = order_of_sort _ c.sort_unstable_by.ensures.sorted (λ a o f k. search rules)
