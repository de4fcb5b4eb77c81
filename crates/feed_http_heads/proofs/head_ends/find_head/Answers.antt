use Rattle.std.proofs.Common.{arith, length}
use Rattle.feed_http_heads.proofs.HeadsFound.{in_front, never_in_front, full_in_front, front_is}
use Rattle.feed_http_heads.proofs.head_ends.find_head.Goals as goal

pub returns-in-Ok-Complete : goal.returns-in-Ok-Complete
returns-in-Ok-Complete c = let front = front_is 8192 c.min.result c.args.bytes.now (omega arith) in
    in_front 8192 (length c.args.headers.now) c.args.bytes.now c.parse_request.new.headers c.in-Ok-Complete.spans
    (rw (c.in-Ok-Complete.field-0-is, front) at c.in-Ok-Complete.ensures.complete) (rw (c.in-Ok-Complete.field-0-is, front) at c.in-Ok-Complete.ensures.within)
    (let kept = c.parse_request.auto.headers in omega (arith, kept))

pub returns-else-bytes-lt-HEAD_LIMIT : goal.returns-else-bytes-lt-HEAD_LIMIT
returns-else-bytes-lt-HEAD_LIMIT c = let front = front_is 8192 c.min.result c.args.bytes.now (omega arith) in
    full_in_front 8192 (length c.args.headers.now) c.args.bytes.now
    (rw (c.in-Ok-Partial.field-0-is, front) at c.in-Ok-Partial.ensures.partial) (omega arith)

pub returns-in-Err : goal.returns-in-Err
returns-in-Err c = let front = front_is 8192 c.min.result c.args.bytes.now (omega arith) in
    never_in_front 8192 (length c.args.headers.now) c.args.bytes.now (rw front at c.in-Err.ensures.no_room)
