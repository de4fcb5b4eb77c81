use Rattle.std.specs.Prelude.{slice_range}
use Rattle.feed_http.proofs.Answering.{all_sent, at_any_file, at_its_file, body_cut, head_unwritten}
use Rattle.feed_http.proofs.serving.serve.response_with.Goals as goal

pub returns-in_err-status-clause-reply : goal.returns-in_err-status-clause-reply
returns-in_err-status-clause-reply g c = at_any_file (g.S.Shelf.files c.args.shelf.now) c.args.name.now _
    (λ file. head_unwritten _ c.from_residual.result c.in_err-status.field-0.0 _ _ c.from_residual.ensures.1 c.in_err-status.ensures.faults)

pub returns-in_err-send-clause-reply : goal.returns-in_err-send-clause-reply
returns-in_err-send-clause-reply g c = at_its_file (g.S.Shelf.files c.args.shelf.now) c.args.name.now _ _ c.in_err-send.ensures.sent
    (λ file sent. body_cut c.args.head (slice_range file c.args.places.start c.args.places.end) c.from_residual-in_err-send.result c.in_err-send.field-0.0 _ (g.W.Write.contents c.write.new.writer) _
    c.from_residual-in_err-send.ensures.1 c.in_ok-status.ensures.head sent)

pub returns-clause-reply : goal.returns-clause-reply
returns-clause-reply g c = at_its_file (g.S.Shelf.files c.args.shelf.now) c.args.name.now _ _ c.in_ok-send.ensures.sent
    (λ file sent. all_sent c.args.head (slice_range file c.args.places.start c.args.places.end) c.in_ok-status.status _ (g.W.Write.contents c.write.new.writer) _
    c.in_ok-status.ensures.status c.in_ok-status.ensures.head sent)
