use Rattle.node_hits.proofs.tally.Tally.look_at_each.Goals as goal

pub look_at-requires-clause-asked : goal.look_at-requires-clause-asked
look_at-requires-clause-asked c = c.requires.asked c.loop-place.place-index 0 c.loop-place-test.true
