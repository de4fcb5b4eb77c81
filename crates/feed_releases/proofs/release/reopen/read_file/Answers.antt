use Rattle.std.proofs.Common.{refl}
use Rattle.feed_releases.proofs.ReadAhead.{read_end, read_further}
use Rattle.feed_releases.proofs.release.reopen.read_file.Goals as goal

pub returns-then-has_more : goal.returns-then-has_more
returns-then-has_more c =
    read_further c.args.size c.args.kept.now.parts c.args.running c.in-Some.running c.in-Some-read_on.further c.in-Some.is c.requires
    c.in-Some-read_on.ensures.reads (c.has_more.ensures.0 (rw c.if-has_more.true refl)) c.in-Some-read_on.ensures.some

pub returns : goal.returns
returns c =
    read_end c.args.size c.args.kept.now.parts c.args.running c.in-Some.running c.finish_whole.result c.in_ok-standing_from.field-0 c.in-Some.is c.requires
    (λ some. (let t = c.has_more.ensures.1 some in let f = c.if-has_more.false in absurd (cc))) c.finish_whole.ensures c.in_ok-standing_from.ensures
