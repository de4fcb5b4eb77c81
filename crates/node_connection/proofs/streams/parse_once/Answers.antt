use Rattle.std.proofs.Common.{arith, refl, subst, true, false}
use Rattle.node_connection.specs.States.{HasParsed}
use Rattle.node_connection.proofs.Steps.{after_parse}
use Rattle.node_connection.proofs.streams.parse_once.Goals as goal

pub returns-then-parse_request-clause-advanced : goal.returns-then-parse_request-clause-advanced
returns-then-parse_request-clause-advanced g c = λ history unread unwritten state.
    after_parse (g.S.Respond.wanted c.args.responder.now, g.S.Respond.responses c.args.responder.now) c.args.share.now _ true c.parse_request.new.self history unread unwritten refl
    (λ e. absurd (cc)) (λ e. omega (arith, c.if-share-eq0.false))
    (subst (λ b. HasParsed (g.S.Respond.wanted c.args.responder.now, g.S.Respond.responses c.args.responder.now) b c.parse_request.new.self history) c.if-parse_request.true
    (c.parse_request.ensures.state history state))

pub returns-else-parse_request-clause-advanced : goal.returns-else-parse_request-clause-advanced
returns-else-parse_request-clause-advanced g c = λ history unread unwritten state.
    after_parse (g.S.Respond.wanted c.args.responder.now, g.S.Respond.responses c.args.responder.now) c.args.share.now c.args.share.now false c.parse_request.new.self history unread unwritten
    refl (λ e. refl) (λ e. absurd (cc))
    (subst (λ b. HasParsed (g.S.Respond.wanted c.args.responder.now, g.S.Respond.responses c.args.responder.now) b c.parse_request.new.self history) c.if-parse_request.false
    (c.parse_request.ensures.state history state))
