use Rattle.std.proofs.Common.{[], ◌∷◌, refl, take, subst}
use Rattle.std.specs.Io.KnownBytes.{Appends}
use Rattle.node_connection.specs.Events.{Sent}
use Rattle.node_connection.specs.States.{pending_of}
use Rattle.node_connection.proofs.streams.send_once.Goals as goal

pub returns-in-Ok-clause-written : goal.returns-in-Ok-clause-written
returns-in-Ok-clause-written g c = λ history state. record {
  more = Sent (take c.in-Ok.count (pending_of c.args.connection.now)) ∷ [];
  state = c.mark_sent.ensures.state history state;
  no_reply_made = refl;
  bytes_sent = subst (λ t. Appends (g.W.Transmit.contents c.args.writer.now) (g.W.Transmit.contents c.write.new.self) (take c.in-Ok.count t)) c.pending_response.ensures c.in-Ok.ensures.bytes;
  none_received = refl;
}
