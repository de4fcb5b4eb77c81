use Rattle.feed_kbart.proofs.holdings.Holdings.with_identifier.Goals as goal

pub returns : goal.returns
returns c = rw (← c.self.view_is, c.places_beside.ensures, c.key.ensures.key) (c.self.invariant.places c.args.identifier.now c.key.ensures.valid)
