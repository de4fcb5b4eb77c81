use Rattle.std.proofs.Common.{inl, inr, refl, false}
use Rattle.std.proofs.lemmas.Result.{IfOk-weaker}
use Rattle.node_resolver.specs.NodeResponses.{IsNodeResponse, IsNodeResponseText, IsNodeMessage, SaysOfConnection}
use Rattle.node_resolver.proofs.Connections.{says, node_says}
use Rattle.node_resolver.proofs.node.node_response_with.Goals as goal

pub returns-in-Some-clause-value : goal.returns-in-Some-clause-value
returns-in-Some-clause-value c = let found = c.in-Some.ensures in
    IfOk-weaker c.node_response.result _ (λ response. IsNodeResponse c.args.context.now.sites.now c.args.policy.now c.args.received.now.bytes.now c.args.body.now c.args.keeps c.args.context.now.moment
    response)
    (λ response is. inl (found.head, found.begins, is found.head found.has)) c.node_response.ensures.value

pub returns-in-Some-clause-text : goal.returns-in-Some-clause-text
returns-in-Some-clause-text c = let found = c.in-Some.ensures in
    IfOk-weaker c.node_response.result _
    (λ response. IsNodeResponseText c.args.context.now.sites.now c.args.policy.now c.args.received.now.bytes.now c.args.body.now c.args.keeps c.args.context.now.moment response.bytes)
    (λ response is. (response, inl (found.head, found.begins, is found.head found.has), refl)) c.node_response.ensures.value

pub returns-in-Some-clause-message : goal.returns-in-Some-clause-message
returns-in-Some-clause-message c = let found = c.in-Some.ensures in
    IfOk-weaker c.node_response.result _ (λ response. IsNodeMessage c.args.received.now.bytes.now c.args.keeps response)
    (λ response is. elim (is found.head found.has) [ inl message ↦ inl (inl (found.head, found.begins, message)) | inr begins ↦ inr begins.0 ]) c.node_response.ensures.message

pub returns-in-None-clause-text : goal.returns-in-None-clause-text
returns-in-None-clause-text c = IfOk-weaker c.bad_head_response.result _
    (λ response. IsNodeResponseText c.args.context.now.sites.now c.args.policy.now c.args.received.now.bytes.now c.args.body.now c.args.keeps c.args.context.now.moment response.bytes)
    (λ response is. (response, inr (c.in-None.ensures, is), refl)) c.bad_head_response.ensures.value

pub returns-in-None-clause-value : goal.returns-in-None-clause-value
returns-in-None-clause-value c = IfOk-weaker c.bad_head_response.result _
    (λ response. IsNodeResponse c.args.context.now.sites.now c.args.policy.now c.args.received.now.bytes.now c.args.body.now c.args.keeps c.args.context.now.moment response)
    (λ response is. inr (c.in-None.ensures, is)) c.bad_head_response.ensures.value

pub returns-in-None-clause-message : goal.returns-in-None-clause-message
returns-in-None-clause-message c = IfOk-weaker c.bad_head_response.result _ (λ response. IsNodeMessage c.args.received.now.bytes.now c.args.keeps response)
    (λ response is. inl (inr (c.in-None.ensures, is))) c.bad_head_response.ensures.message

pub returns-in-Some-clause-says : goal.returns-in-Some-clause-says
returns-in-Some-clause-says c = let found = c.in-Some.ensures in
    IfOk-weaker c.node_response.result _ (λ response. SaysOfConnection c.args.received.now.bytes.now c.args.keeps response)
    (λ response is. node_says c.args.received.now.bytes.now c.args.keeps found.head response found.begins (is found.head found.has)) c.node_response.ensures.message

pub returns-in-None-clause-says : goal.returns-in-None-clause-says
returns-in-None-clause-says c = IfOk-weaker c.bad_head_response.result _ (λ response. SaysOfConnection c.args.received.now.bytes.now c.args.keeps response)
    (λ response is. inl (says c.args.keeps false response is)) c.bad_head_response.ensures.message
