use Rattle.node_connection.proofs.Steps.{after_read, after_write, nothing}
use Rattle.node_connection.proofs.Waits.{bytes_blocked, bytes_no_room, room_blocked, room_no_bytes}
use Rattle.node_connection.proofs.streams.step.Goals as goal

pub returns-in-Bytes-clause-advanced : goal.returns-in-Bytes-clause-advanced
returns-in-Bytes-clause-advanced g c = λ history state.
    after_read (g.S.Respond.wanted c.args.responder.now, g.S.Respond.responses c.args.responder.now) c.args.share.now c.receive_once.new.share c.receive_once.new.connection history _ _
    (g.W.Transmit.contents c.args.sides.now.writer) (c.receive_once.ensures.read history state)

pub returns-in-Bytes-clause-receives : goal.returns-in-Bytes-clause-receives
returns-in-Bytes-clause-receives g c = λ blocked is. bytes_blocked c.receive_once.new.connection (c.receive_once.ensures.blocked blocked) is

pub returns-in-Bytes-clause-sends : goal.returns-in-Bytes-clause-sends
returns-in-Bytes-clause-sends g c = λ blocked is. bytes_no_room c.receive_once.new.connection (c.receive_once.ensures.blocked blocked) is

pub returns-in-Parse-clause-advanced : goal.returns-in-Parse-clause-advanced
returns-in-Parse-clause-advanced g c = λ history state. c.parse_once.ensures.advanced history _ _ state

pub returns-in-Parse-clause-receives : goal.returns-in-Parse-clause-receives
returns-in-Parse-clause-receives g c = λ blocked is. absurd (c.parse_once.ensures.parsed blocked)

pub returns-in-Parse-clause-sends : goal.returns-in-Parse-clause-sends
returns-in-Parse-clause-sends g c = λ blocked is. absurd (c.parse_once.ensures.parsed blocked)

pub returns-in-Room-clause-advanced : goal.returns-in-Room-clause-advanced
returns-in-Room-clause-advanced g c = λ history state.
    after_write (g.S.Respond.wanted c.args.responder.now, g.S.Respond.responses c.args.responder.now) c.args.share.now c.send_once.new.connection history
    (g.R.Receive.remaining c.args.sides.now.reader) _ _ (c.send_once.ensures.written history state)

pub returns-in-Room-clause-receives : goal.returns-in-Room-clause-receives
returns-in-Room-clause-receives g c = λ blocked is. room_no_bytes c.send_once.new.connection (c.send_once.ensures.blocked blocked) is

pub returns-in-Room-clause-sends : goal.returns-in-Room-clause-sends
returns-in-Room-clause-sends g c = λ blocked is. room_blocked c.send_once.new.connection (c.send_once.ensures.blocked blocked) is

pub returns-in-Next-clause-advanced : goal.returns-in-Next-clause-advanced
returns-in-Next-clause-advanced g c = λ history state.
    nothing (g.S.Respond.wanted c.args.responder.now, g.S.Respond.responses c.args.responder.now) c.args.share.now c.args.connection.now history _ _ state

pub returns-in-Close-clause-advanced : goal.returns-in-Close-clause-advanced
returns-in-Close-clause-advanced g c = λ history state.
    nothing (g.S.Respond.wanted c.args.responder.now, g.S.Respond.responses c.args.responder.now) c.args.share.now c.args.connection.now history _ _ state
