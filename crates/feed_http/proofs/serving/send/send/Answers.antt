use Rattle.std.proofs.Common.{◌∙◌, arith}
use Rattle.feed_http.proofs.Sending.{sent_more, sent_broken_off}
use Rattle.feed_http.proofs.serving.send.send.Goals as goal

pub returns-in_err-send_block-clause-sent : goal.returns-in_err-send_block-clause-sent
returns-in_err-send_block-clause-sent g c = let i = c.loop-at.invariant in
    sent_broken_off (g.S.Shelf.files c.args.shelf.now) c.args.name.now (g.W.Write.contents c.args.writer.now) (g.W.Write.contents c.loop-at.writer) (g.W.Write.contents c.send_block.new.writer)
    c.args.first c.loop-at.at c.min-len.result c.args.end c.from_residual.result c.in_err-send_block.field-0.0 i.0 (omega arith) c.from_residual.ensures.1 i.4
    (rw i.2 at c.in_err-send_block.ensures.sent)

pub loop-at-preserved : goal.loop-at-preserved
loop-at-preserved g c = let h = c.in_ok-send_block.ensures in let i = c.loop-at.invariant in (
  omega arith,
  omega arith,
  h.kept ∙ i.2,
  h.device.stays (λ e. cc) ∙ i.3,
  sent_more (g.S.Shelf.files c.args.shelf.now) c.args.name.now (g.W.Write.contents c.args.writer.now) (g.W.Write.contents c.loop-at.writer) (g.W.Write.contents c.send_block.new.writer)
      c.args.first c.loop-at.at c.min-len.result i.0 i.4 (rw i.2 at h.sent),
)
