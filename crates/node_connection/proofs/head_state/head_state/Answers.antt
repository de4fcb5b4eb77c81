use Rattle.std.proofs.Common.{length, take, subst, ap, ◌≡◌, ◌∙◌, refl, arith}
use Rattle.std.proofs.lemmas.List.{take_all}
use Rattle.feed_http_heads.specs.Limits.{head_limit, field_limit}
use Rattle.feed_http_heads.specs.RequestHeads.{BeginsWithHead, NeverBeginsWithHead}
use Rattle.node_connection.proofs.Found.{found_in}
use Rattle.node_connection.proofs.head_state.head_state.Goals as goal

pub returns-in-Some-clause-state : goal.returns-in-Some-clause-state
returns-in-Some-clause-state g c =
    let bytes = c.args.held.now.bytes.items in
    let all : take (length bytes) c.find.new.self.bytes.items ≡ bytes = ap (λ v. take (length bytes) v.items) c.if-not-find.ensures.bytes ∙ take_all (length bytes) bytes (omega arith) in
    let front = c.in-Some.ensures.found (length bytes) (c.if-not-find.ensures.found refl) in
    found_in (g.R.Respond.wanted c.args.responder.now) bytes c.in-Some.parsed.request.spans.len c.body_len.result front.head c.found.result
    (subst (λ t. BeginsWithHead head_limit field_limit t front.head) all front.begins) front.has.len
    (c.body_len.ensures.wanted front.head front.has) c.body_len.ensures.limit (c.found.ensures.found front.head front.has) c.found.ensures.bound

pub returns-in-None-clause-state : goal.returns-in-None-clause-state
returns-in-None-clause-state g c =
    let bytes = c.args.held.now.bytes.items in
    let all : take (length bytes) c.find.new.self.bytes.items ≡ bytes = ap (λ v. take (length bytes) v.items) c.if-not-find.ensures.bytes ∙ take_all (length bytes) bytes (omega arith) in
    subst (NeverBeginsWithHead head_limit field_limit) all (c.in-None.ensures.found (length bytes) (c.if-not-find.ensures.found refl))
