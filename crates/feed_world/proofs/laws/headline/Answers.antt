use Rattle.feed_world.proofs.laws.headline.Goals as goal
use Rattle.feed_world.proofs.Main as main

pub returns : goal.returns
returns c = main.headline
