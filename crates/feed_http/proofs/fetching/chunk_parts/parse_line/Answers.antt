use Rattle.std.proofs.Common.{refl, arith}
use Rattle.feed_http.proofs.ChunkParts.{line_complete, line_never, line_full}
use Rattle.feed_http.proofs.fetching.chunk_parts.parse_line.Goals as goal

pub returns-in-Ok-Complete : goal.returns-in-Ok-Complete
returns-in-Ok-Complete c =
    line_complete c.args.rest.now _ c.min.result _ _ refl (let m = c.min.ensures in omega (arith, m)) (let m = c.min.ensures in omega (arith, m))
    (rw c.in-Ok-Complete.field-0-is at c.in-Ok-Complete.ensures.complete)

pub returns-else-line-lt-CHUNK_LINE_LIMIT : goal.returns-else-line-lt-CHUNK_LINE_LIMIT
returns-else-line-lt-CHUNK_LINE_LIMIT c =
    line_full c.args.rest.now _ c.min.result refl (rw c.in-Ok-Partial.field-0-is at c.in-Ok-Partial.ensures.partial) (let f = c.if-line-lt-CHUNK_LINE_LIMIT.false in omega (arith, f))

pub returns-in-Err : goal.returns-in-Err
returns-in-Err c = line_never c.args.rest.now _ c.min.result refl c.in-Err.ensures.invalid
