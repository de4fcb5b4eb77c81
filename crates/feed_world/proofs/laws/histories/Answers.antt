use Rattle.feed_world.proofs.laws.histories.Goals as goal
use Rattle.feed_world.proofs.Main as main

pub returns : goal.returns
returns c = main.kept_published
