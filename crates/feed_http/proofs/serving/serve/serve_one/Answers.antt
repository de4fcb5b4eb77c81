use Rattle.std.proofs.Common.{take, arith}
use Rattle.std.proofs.lemmas.List.{length-take}
use Rattle.feed_http_heads.proofs.HeadsFound.{invalid_never, too_long_never}
use Rattle.feed_http.proofs.Exchanges.{by_head, by_head_alone, has_head, never_served, never_asked}
use Rattle.feed_http.proofs.Answering.{rejected}
use Rattle.feed_http.proofs.serving.serve.serve_one.Goals as goal

pub returns-in-Ok-clause-reply : goal.returns-in-Ok-clause-reply
returns-in-Ok-clause-reply g c = by_head 8192 64 (g.R.Read.remaining c.args.reader.now) (g.R.Read.remaining c.read_request.new.reader)
    (take c.in-Ok.read.filled c.read_request.new.buffer) c.read_request.new.headers c.in-Ok.read.spans (g.S.Shelf.files c.args.shelf.now) _
    c.in-Ok.ensures.taken c.in-Ok.ensures.head c.respond.ensures.reply

pub returns-in-Ok-clause-refused : goal.returns-in-Ok-clause-refused
returns-in-Ok-clause-refused g c = has_head 8192 64 (g.R.Read.remaining c.args.reader.now) (g.R.Read.remaining c.read_request.new.reader)
    (take c.in-Ok.read.filled c.read_request.new.buffer) c.read_request.new.headers c.in-Ok.read.spans _
    c.in-Ok.ensures.taken c.in-Ok.ensures.head c.in-Ok.ensures.within
    (let buffered = c.read_request.auto.buffer in omega (arith, length-take c.in-Ok.read.filled c.read_request.new.buffer, buffered))
    (let kept = c.read_request.auto.headers in omega (arith, kept))

pub returns-in-Err-BadHead-clause-reply : goal.returns-in-Err-BadHead-clause-reply
returns-in-Err-BadHead-clause-reply g c = never_served 8192 64 (g.R.Read.remaining c.args.reader.now) (g.S.Shelf.files c.args.shelf.now) _
    (invalid_never 8192 64 (g.R.Read.remaining c.args.reader.now) (rw c.in-Err-BadHead.field-0-is at c.in-Err-BadHead.ensures.why))

pub returns-in-Err-HeadTooLong-clause-reply : goal.returns-in-Err-HeadTooLong-clause-reply
returns-in-Err-HeadTooLong-clause-reply g c = never_served 8192 64 (g.R.Read.remaining c.args.reader.now) (g.S.Shelf.files c.args.shelf.now) _
    (too_long_never 8192 64 (g.R.Read.remaining c.args.reader.now) (rw c.in-Err-HeadTooLong.field-0-is at c.in-Err-HeadTooLong.ensures.why))

pub returns-in-Ok-clause-response_without_file : goal.returns-in-Ok-clause-response_without_file
returns-in-Ok-clause-response_without_file g c = by_head_alone 8192 64 (g.R.Read.remaining c.args.reader.now) (g.R.Read.remaining c.read_request.new.reader)
    (take c.in-Ok.read.filled c.read_request.new.buffer) c.read_request.new.headers c.in-Ok.read.spans _
    c.in-Ok.ensures.taken c.in-Ok.ensures.head c.respond.ensures.response_without_file

pub returns-in-Err-BadHead-clause-response_without_file : goal.returns-in-Err-BadHead-clause-response_without_file
returns-in-Err-BadHead-clause-response_without_file g c = never_asked 8192 64 (g.R.Read.remaining c.args.reader.now) _
    (invalid_never 8192 64 (g.R.Read.remaining c.args.reader.now) (rw c.in-Err-BadHead.field-0-is at c.in-Err-BadHead.ensures.why))

pub returns-in-Err-HeadTooLong-clause-response_without_file : goal.returns-in-Err-HeadTooLong-clause-response_without_file
returns-in-Err-HeadTooLong-clause-response_without_file g c = never_asked 8192 64 (g.R.Read.remaining c.args.reader.now) _
    (too_long_never 8192 64 (g.R.Read.remaining c.args.reader.now) (rw c.in-Err-HeadTooLong.field-0-is at c.in-Err-HeadTooLong.ensures.why))

pub returns-in-Err-BadHead-clause-refused : goal.returns-in-Err-BadHead-clause-refused
returns-in-Err-BadHead-clause-refused g c = let written = c.write.ensures in
    rejected 8192 64 (g.R.Read.remaining c.args.reader.now) c.write.result (g.W.Write.contents c.args.writer.now) (g.W.Write.contents c.write.new.writer)
    (invalid_never 8192 64 (g.R.Read.remaining c.args.reader.now) (rw c.in-Err-BadHead.field-0-is at c.in-Err-BadHead.ensures.why)) written.status written.head written.faults

pub returns-in-Err-HeadTooLong-clause-refused : goal.returns-in-Err-HeadTooLong-clause-refused
returns-in-Err-HeadTooLong-clause-refused g c = let written = c.write-in-Err-HeadTooLong.ensures in
    rejected 8192 64 (g.R.Read.remaining c.args.reader.now) c.write-in-Err-HeadTooLong.result (g.W.Write.contents c.args.writer.now) (g.W.Write.contents c.write-in-Err-HeadTooLong.new.writer)
    (too_long_never 8192 64 (g.R.Read.remaining c.args.reader.now) (rw c.in-Err-HeadTooLong.field-0-is at c.in-Err-HeadTooLong.ensures.why)) written.status written.head written.faults
