use Rattle.std.proofs.Common.{Ok, Err}
use Rattle.feed_names.specs.ReleaseName.{text_of}
use Rattle.feed_http.specs.RequestTexts.{get_text}
use Rattle.feed_http.specs.declared.fetching.got.Method.TheVariants.{Get}
use Rattle.feed_fetch.proofs.RequestReading.{asked, refused}
use Rattle.feed_fetch.proofs.requests.request_range.Goals as goal

pub returns-in-Ok-read_reply-clause-reply : goal.returns-in-Ok-read_reply-clause-reply
returns-in-Ok-read_reply-clause-reply g c =
    asked g.D.Dial.responses (g.D.Conn.Write.contents c.in-Ok.conn) (g.D.Conn.Write.contents c.write_request.new.writer) (g.D.Conn.Read.remaining c.write_request.new.writer)
    (get_text c.args.host.now (text_of c.args.name.now) c.args.first c.args.last) Get (Ok c.in-Ok-read_reply.got)
    c.in-Ok.ensures.fresh c.in-Ok-write_request.ensures.text (g.met.D.Dial.answers c.write_request.new.writer) c.in-Ok-read_reply.ensures.reply

pub returns-clause-reply : goal.returns-clause-reply
returns-clause-reply g c =
    refused g.D.Dial.responses (get_text c.args.host.now (text_of c.args.name.now) c.args.first c.args.last) Get c.in-Err-read_reply.fault
    (asked g.D.Dial.responses (g.D.Conn.Write.contents c.in-Ok.conn) (g.D.Conn.Write.contents c.write_request.new.writer) (g.D.Conn.Read.remaining c.write_request.new.writer)
    (get_text c.args.host.now (text_of c.args.name.now) c.args.first c.args.last) Get (Err c.in-Err-read_reply.fault)
    c.in-Ok.ensures.fresh c.in-Ok-write_request.ensures.text (g.met.D.Dial.answers c.write_request.new.writer) c.in-Err-read_reply.ensures.reply)
