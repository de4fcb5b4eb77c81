use Rattle.feed_http.proofs.ChunkParts.{end_complete, end_unfinished, end_invalid}
use Rattle.feed_http.proofs.fetching.chunk_parts.find_end.Goals as goal

pub returns-then-starts_with : goal.returns-then-starts_with
returns-then-starts_with c = end_complete c.args.rest.now c.starts_with.result c.starts_with.ensures.value c.if-starts_with.true

pub returns-then-starts_with-2 : goal.returns-then-starts_with-2
returns-then-starts_with-2 c =
    end_unfinished c.args.rest.now c.starts_with.result c.starts_with-else-starts_with.result c.starts_with.ensures.value c.if-starts_with.false
    c.starts_with-else-starts_with.ensures.value c.if-starts_with-2.true

pub returns-else-starts_with-2 : goal.returns-else-starts_with-2
returns-else-starts_with-2 c =
    end_invalid c.args.rest.now c.starts_with.result c.starts_with-else-starts_with.result c.starts_with.ensures.value c.if-starts_with.false
    c.starts_with-else-starts_with.ensures.value c.if-starts_with-2.false
