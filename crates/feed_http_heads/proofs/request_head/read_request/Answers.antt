use Rattle.std.proofs.Common.{◌≡◌, ◌≤◌, ◌+◌, ◌-◌, take, length, arith}
use Rattle.std.proofs.lemmas.List.{length-take-le}
use Rattle.std.proofs.KnownBytes.{Consumes-nil}
use borrow.Rule.Slice.PartMut.{put_mid, same_len_mid}
use Rattle.feed_http_heads.proofs.BufferFilling.{put_mid_fits, read_more}
use Rattle.feed_http_heads.proofs.RequestReading.{nothing_yet, too_long, invalid}
use Rattle.feed_http_heads.proofs.request_head.read_request.Goals as goal

pub loop-filled-init : goal.loop-filled-init
loop-filled-init g c = (omega arith, Consumes-nil (g.R.Read.remaining c.args.reader.now), nothing_yet)

pub returns-in-Ok-Complete-clause-taken : goal.returns-in-Ok-Complete-clause-taken
returns-in-Ok-Complete-clause-taken g c = read_more _ _ _ c.loop-filled.filled _ c.in_ok-filled.field-0 c.loop-filled.buffer c.read_some.new.space
    c.loop-filled.invariant.0 c.in_ok-filled.ensures.some.1 c.loop-filled.invariant.1 c.in_ok-filled.ensures.taken

pub loop-filled-preserved : goal.loop-filled-preserved
loop-filled-preserved g c = (
  put_mid_fits c.loop-filled.filled _ c.in_ok-filled.field-0 c.loop-filled.buffer c.read_some.new.space c.loop-filled.invariant.0 c.in_ok-filled.ensures.some.1,
  read_more _ _ _ c.loop-filled.filled _ c.in_ok-filled.field-0 c.loop-filled.buffer c.read_some.new.space
      c.loop-filled.invariant.0 c.in_ok-filled.ensures.some.1 c.loop-filled.invariant.1 c.in_ok-filled.ensures.taken,
  record { not_whole = rw c.in-Ok-Partial.field-0-is at c.in-Ok-Partial.ensures.partial; may_become = rw c.in-Ok-Partial.field-0-is at c.in-Ok-Partial.ensures.unfinished },
)

pub returns-in-Err-clause-why : goal.returns-in-Err-clause-why
returns-in-Err-clause-why g c =
    let buffer = put_mid c.loop-filled.filled (length c.loop-filled.buffer - c.loop-filled.filled) c.loop-filled.buffer c.read_some.new.space in
    let fits : c.loop-filled.filled + c.in_ok-filled.field-0 ≤ length buffer = put_mid_fits c.loop-filled.filled _ c.in_ok-filled.field-0 c.loop-filled.buffer c.read_some.new.space
    c.loop-filled.invariant.0 c.in_ok-filled.ensures.some.1 in
    let same : length buffer ≡ length c.loop-filled.buffer = same_len_mid c.loop-filled.filled _ c.loop-filled.buffer c.read_some.new.space c.read_some.auto.space in
    let kept = c.loop-filled.auto.buffer in
    rw (← c.loop-filled.auto.headers) (invalid (length c.args.buffer.now) (length c.loop-filled.headers) _ _ (take (c.loop-filled.filled + c.in_ok-filled.field-0) buffer)
    (read_more _ _ _ c.loop-filled.filled _ c.in_ok-filled.field-0 c.loop-filled.buffer c.read_some.new.space
    c.loop-filled.invariant.0 c.in_ok-filled.ensures.some.1 c.loop-filled.invariant.1 c.in_ok-filled.ensures.taken)
    (omega (arith, same, kept, length-take-le (c.loop-filled.filled + c.in_ok-filled.field-0) buffer fits))
    c.in-Err.ensures.no_room)

pub returns-clause-why : goal.returns-clause-why
returns-clause-why g c =
    too_long (length c.args.buffer.now) (length c.args.headers.now) _ _ (take c.loop-filled.filled c.loop-filled.buffer)
    c.loop-filled.invariant.1 c.loop-filled.invariant.2
    (let e : length (take c.loop-filled.filled c.loop-filled.buffer) ≡ c.loop-filled.filled = length-take-le _ _ c.loop-filled.invariant.0 in omega arith)
