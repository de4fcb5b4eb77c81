use Rattle.feed_world.proofs.laws.latest_is_reported.Goals as goal
use Rattle.feed_world.proofs.Main as main

pub returns : goal.returns
returns c = main.latest
