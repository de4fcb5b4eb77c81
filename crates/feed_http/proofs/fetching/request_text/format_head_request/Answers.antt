use Rattle.std.proofs.Common.{codes}
use Rattle.feed_names.specs.ReleaseName.{text_of}
use Rattle.feed_http.proofs.RequestWriting.{started}
use Rattle.feed_http.proofs.fetching.request_text.format_head_request.Goals as goal

pub returns-clause-text : goal.returns-clause-text
returns-clause-text g c = started (g.W.Write.contents c.args.out.now) (g.W.Write.contents c.format_start.new.out) (g.W.Write.contents c.write_all.new.self)
    (codes "HEAD") c.args.host.now (text_of c.args.name.now) _ c.in-Ok.ensures c.in-Ok-write_all.ensures.bytes
