use Rattle.feed_fetch.proofs.machine.Fetch.submit.Goals as goal

pub returns-in-Offered-clause-fills : goal.returns-in-Offered-clause-fills
returns-in-Offered-clause-fills g c file piece first last offered has fit = c.take_range.ensures.fills file piece first last has fit
