use Rattle.std.proofs.Common.{refl, arith}
use Rattle.feed_http.proofs.ChunkParts.{section_complete, section_never, section_full}
use Rattle.feed_http.proofs.fetching.chunk_parts.parse_trailers.Goals as goal

pub returns-in-Ok-Complete : goal.returns-in-Ok-Complete
returns-in-Ok-Complete c =
    section_complete c.args.rest.now _ c.min.result _ _ refl (let m = c.min.ensures in omega (arith, m)) (let m = c.min.ensures in omega (arith, m)) c.parse_headers.auto.headers
    (rw c.in-Ok-Complete.field-0-is at c.in-Ok-Complete.ensures.complete)

pub returns-else-section-lt-HEAD_LIMIT : goal.returns-else-section-lt-HEAD_LIMIT
returns-else-section-lt-HEAD_LIMIT c =
    section_full c.args.rest.now _ c.min.result refl (rw c.in-Ok-Partial.field-0-is at c.in-Ok-Partial.ensures.partial) (let f = c.if-section-lt-HEAD_LIMIT.false in omega (arith, f))

pub returns-in-Err : goal.returns-in-Err
returns-in-Err c = section_never c.args.rest.now _ c.min.result refl c.in-Err.ensures.no_room
