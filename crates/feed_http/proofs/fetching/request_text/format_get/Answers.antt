use Rattle.std.proofs.Common.{codes}
use Rattle.feed_names.specs.ReleaseName.{text_of}
use Rattle.feed_http.proofs.RequestWriting.{started, three}
use Rattle.feed_http.proofs.fetching.request_text.format_get.Goals as goal

pub returns-clause-text : goal.returns-clause-text
returns-clause-text g c = started (g.W.Write.contents c.args.out.now) (g.W.Write.contents c.format_start.new.out) (g.W.Write.contents c.write_all-2.new.self)
    (codes "GET") c.args.host.now (text_of c.args.name.now) _ c.in-Ok.ensures
    (three (g.W.Write.contents c.format_start.new.out) (g.W.Write.contents c.write_all.new.self) (g.W.Write.contents c.write_ask.new.writer) (g.W.Write.contents c.write_all-2.new.self)
    _ _ _ c.in-Ok-write_all.ensures.bytes c.in-Ok-write_ask.ensures c.in-Ok-write_all-2.ensures.bytes)
