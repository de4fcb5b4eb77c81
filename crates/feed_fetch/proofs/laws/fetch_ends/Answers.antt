use Rattle.feed_fetch.proofs.Progress.{bounded, ending, excused_alone, needs_whole}
use Rattle.feed_fetch.proofs.laws.fetch_ends.Goals as goal

pub returns-clause-bounded : goal.returns-clause-bounded
returns-clause-bounded g c = bounded g.D.Dial.responses

pub returns-clause-ending : goal.returns-clause-ending
returns-clause-ending g c = ending g.D.Dial.responses

pub returns-clause-excused : goal.returns-clause-excused
returns-clause-excused g c = excused_alone g.D.Dial.responses

pub returns-clause-whole : goal.returns-clause-whole
returns-clause-whole g c = needs_whole
