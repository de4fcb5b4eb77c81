use Rattle.std.proofs.Common.{arith, refl, sym, subst}
use Rattle.std.specs.Io.KnownBytes.{Consumes}
use Rattle.node_connection.proofs.Steps.{read_some}
use Rattle.node_connection.proofs.streams.receive_once.Goals as goal

pub returns-in-Ok-clause-read : goal.returns-in-Ok-clause-read
returns-in-Ok-clause-read g c = λ history state.
    read_some c.args.share.now _ c.receive.new.self history c.split_at.result.0.now (g.R.Receive.remaining c.args.reader.now) (g.R.Receive.remaining c.read.new.self)
    (subst (Consumes (g.R.Receive.remaining c.args.reader.now) (g.R.Receive.remaining c.read.new.self)) (sym c.split_at.ensures.front) c.in-Ok.ensures.bytes.0)
    (c.receive.ensures.state history state)
    (omega (arith, c.split_at.ensures.front_len, c.in-Ok.ensures.bound, c.split_at_mut-space.ensures.front_len, c.min-room.ensures)) refl
