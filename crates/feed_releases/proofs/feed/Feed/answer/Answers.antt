use Rattle.feed_releases.proofs.Answered.{answered, reported_here}
use Rattle.feed_releases.proofs.feed.Feed.answer.Goals as goal

pub returns-in-Ok : goal.returns-in-Ok
returns-in-Ok g c h is = answered h c.args.«package».now c.args.query.now c.in-Some.active c.in-Ok.answer (c.in-Some.ensures h is) (rw c.holdings.ensures at c.in-Ok.ensures)

pub returns-in-Err : goal.returns-in-Err
returns-in-Err g c h is = (c.in-Some.active.name, reported_here h c.args.«package».now c.in-Some.active (c.in-Some.ensures h is))
