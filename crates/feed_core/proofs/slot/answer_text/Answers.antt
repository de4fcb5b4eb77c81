use Rattle.feed_core.proofs.Asked.{asked_text}
use Rattle.feed_core.proofs.slot.answer_text.Goals as goal

pub returns-in-Ok-write-clause-answered : goal.returns-in-Ok-write-clause-answered
returns-in-Ok-write-clause-answered g c h is =
    rw c.into_bytes.ensures
    (asked_text h c.args.«package».now c.args.query.now c.in-Ok-with_capacity.text.bytes.items c.write.new.out.bytes.items c.in-Some.name.now c.in-Ok.query c.in-Ok-answer.answer
    (c.in-Some.ensures h is) c.in-Ok.ensures (c.in-Ok-answer.ensures h is) c.in-Ok-with_capacity.ensures c.in-Ok-write.ensures)
