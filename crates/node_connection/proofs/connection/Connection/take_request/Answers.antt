use Rattle.std.proofs.Common.{◌≡◌, length, arith}
use Rattle.std.specs.Prelude.{vec_len}
use Rattle.node_connection.proofs.States.{allowed_head, replied_head, waited}
use Rattle.node_connection.proofs.connection.Connection.take_request.Goals as goal

pub returns-then-after_head-found-clause-state : goal.returns-then-after_head-found-clause-state
returns-then-after_head-found-clause-state g c = λ history state.
    let long : vec_len c.args.self.now.received.bytes ≡ length c.args.self.now.received.bytes.items = (cc) in
    waited (g.R.Respond.wanted c.args.responder.now) c.args.found c.args.self.now c.await_body.new.self history c.requires.parsing state c.await_body.ensures.limits c.requires.found
    (omega (arith, c.if-after_head-found.true, c.len.ensures, long)) c.await_body.ensures.waits

pub respond-requires-clause-allowed : goal.respond-requires-clause-allowed
respond-requires-clause-allowed g c =
    let long : vec_len c.args.self.now.received.bytes ≡ length c.args.self.now.received.bytes.items = (cc) in
    allowed_head (g.R.Respond.wanted c.args.responder.now) c.args.self.now.received.bytes.items c.args.found c.requires.found
    (omega (arith, c.if-after_head-found.false, c.len.ensures, long, c.requires.found.within))

pub returns-clause-state : goal.returns-clause-state
returns-clause-state g c = λ history state.
    let long : vec_len c.args.self.now.received.bytes ≡ length c.args.self.now.received.bytes.items = (cc) in
    replied_head (g.R.Respond.wanted c.args.responder.now, g.R.Respond.responses c.args.responder.now) c.args.found c.args.self.now c.respond.new.self history c.requires.parsing state
    c.respond.ensures.limits c.requires.found (omega (arith, c.if-after_head-found.false, c.len.ensures, long, c.requires.found.within)) c.respond.ensures.responded
