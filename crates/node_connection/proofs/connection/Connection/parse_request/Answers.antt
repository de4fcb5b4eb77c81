use Rattle.std.proofs.Common.{rules, subst, sym, ap, refl, ◌≡◌}
use Rattle.feed_http_heads.specs.Limits.{head_limit, field_limit}
use Rattle.feed_http_heads.specs.RequestHeads.{IsUnfinished, NeverBeginsWithHead}
use Rattle.node_connection.proofs.States.{parsed_still, replied_invalid, unfinished}
use Rattle.node_connection.proofs.connection.Connection.parse_request.Goals as goal

pub returns-in-Incomplete-clause-state : goal.returns-in-Incomplete-clause-state
returns-in-Incomplete-clause-state g c = λ history state.
    let same : c.head_state.new.held.bytes.items ≡ c.args.self.now.received.bytes.items = ap (λ v. v.items) c.in-Incomplete.ensures.bytes in
    unfinished _ c.wait.new.self history c.requires (parsed_still c.args.self.now _ history c.requires same refl refl refl refl refl refl refl state)
    c.wait.ensures.limits c.wait.ensures.waits.0 c.wait.ensures.waits.1
    (subst (IsUnfinished head_limit) (sym same) c.in-Incomplete.ensures.state)

pub returns-in-Whole-clause-state : goal.returns-in-Whole-clause-state
returns-in-Whole-clause-state g c = λ history state.
    let same : c.head_state.new.held.bytes.items ≡ c.args.self.now.received.bytes.items = ap (λ v. v.items) c.in-Whole.ensures.bytes in
    c.take_request.ensures.state history (parsed_still c.args.self.now _ history c.requires same refl refl refl refl refl refl refl state)

pub returns-in-Invalid-clause-state : goal.returns-in-Invalid-clause-state
returns-in-Invalid-clause-state g c = λ history state.
    let same : c.head_state.new.held.bytes.items ≡ c.args.self.now.received.bytes.items = ap (λ v. v.items) c.in-Invalid.ensures.bytes in
    replied_invalid (g.R.Respond.wanted c.args.responder.now, g.R.Respond.responses c.args.responder.now) _ c.respond.new.self history c.len-held.result c.requires
    (parsed_still c.args.self.now _ history c.requires same refl refl refl refl refl refl refl state)
    c.respond.ensures.limits (search rules)
    (subst (NeverBeginsWithHead head_limit field_limit) (sym same) c.in-Invalid.ensures.state)
    c.respond.ensures.responded
