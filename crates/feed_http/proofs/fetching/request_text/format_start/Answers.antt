use Rattle.feed_http.proofs.RequestWriting.{six}
use Rattle.feed_http.proofs.fetching.request_text.format_start.Goals as goal

pub returns : goal.returns
returns g c = six (g.W.Write.contents c.args.out.now) (g.W.Write.contents c.write_all.new.self) (g.W.Write.contents c.write_all-2.new.self) (g.W.Write.contents c.write_all-3.new.self)
    (g.W.Write.contents c.write_all-4.new.self) (g.W.Write.contents c.write_all-5.new.self) (g.W.Write.contents c.write_all-6.new.self) c.write_all-6.result _ _ _ _ _ _
    c.in_ok-write_all.ensures.bytes c.in_ok-write_all-2.ensures.bytes (rw c.text.ensures.value at c.in_ok-write_all-3.ensures.bytes) c.in_ok-write_all-4.ensures.bytes
    c.in_ok-write_all-5.ensures.bytes c.write_all-6.ensures.bytes
