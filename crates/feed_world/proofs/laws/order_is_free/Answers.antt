use Rattle.feed_world.proofs.laws.order_is_free.Goals as goal
use Rattle.feed_world.proofs.Main as main

pub returns : goal.returns
returns c = main.alike
