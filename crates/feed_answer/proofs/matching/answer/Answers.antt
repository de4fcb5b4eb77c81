use Rattle.feed_answer.specs.Places.{listed}
use Rattle.feed_answer.proofs.Places.{answered_at}
use Rattle.feed_answer.proofs.matching.answer.Goals as goal

pub returns : goal.returns
returns c =
    let same = answered_at c.args.query.now c.args.holdings.now (listed c.in_ok-places.places) c.in_ok-places.ensures.ascending
    c.in_ok-places.ensures.whole in
    rw (← same) (rw (c.rows.ensures, c.as_slice.ensures) at c.hits_at.ensures)
