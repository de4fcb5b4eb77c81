use Rattle.std.proofs.Common.{inr, refl}
use Rattle.feed_replay.proofs.EscapedTexts.{one_more, none_more, all_read}
use Rattle.feed_replay.proofs.escapes.unescape.Goals as goal

pub returns-in_default-clause-bytes : goal.returns-in_default-clause-bytes
returns-in_default-clause-bytes c =
    let split = rw c.in_default.is at c.split_at.ensures.parts in
    rw c.in_ok-extend_from_slice.ensures.items
    (all_read c.args.text.now c.loop-bytes.bytes.items c.loop-bytes.rest.now c.split_at.result.0.now c.loop-bytes.invariant split)

pub returns-in_default-read_escape-clause-fault : goal.returns-in_default-read_escape-clause-fault
returns-in_default-read_escape-clause-fault c =
    let split = rw c.in-Some.is at c.split_at.ensures.parts in
    let read = rw c.in-Some.escape-is at c.in_default-read_escape.ensures.none in
    inr (refl, none_more c.args.text.now c.loop-bytes.bytes.items c.loop-bytes.rest.now c.split_at.result.0.now c.in-Some.escape.now c.loop-bytes.invariant split read)

pub loop-bytes-preserved : goal.loop-bytes-preserved
loop-bytes-preserved c =
    let split = rw c.in-Some.is at c.split_at.ensures.parts in
    let read = rw c.in-Some.escape-is at c.in-Some-read_escape.ensures.byte in
    rw (c.in_ok-push.ensures.items, c.in_ok-extend_from_slice.ensures.items)
    (one_more c.args.text.now c.loop-bytes.bytes.items c.loop-bytes.rest.now c.split_at.result.0.now
    c.in-Some.escape.now c.in-Some-read_escape.after.now c.in-Some-read_escape.byte c.loop-bytes.invariant split read)
