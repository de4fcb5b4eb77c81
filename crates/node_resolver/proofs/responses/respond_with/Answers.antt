use Rattle.std.proofs.Common.{inl, inr, false}
use Rattle.std.proofs.lemmas.Result.{IfOk-weaker}
use Rattle.feed_http_heads.specs.Options.{SaysWhetherItKeeps}
use Rattle.feed_http_heads.specs.Requests.{is_head}
use Rattle.node_resolver.specs.Responses.{IsResponse}
use Rattle.node_resolver.specs.Messages.{IsMessageTo}
use Rattle.node_resolver.proofs.Connections.{says}
use Rattle.node_resolver.proofs.responses.respond_with.Goals as goal

pub returns-in-Some-clause-value : goal.returns-in-Some-clause-value
returns-in-Some-clause-value c = let found = c.in-Some.ensures in
    IfOk-weaker c.response_to.result _ (λ response. IsResponse c.args.context.now.site c.args.received.now.bytes.now c.args.body.now c.args.keeps c.args.context.now.actives response)
    (λ response is. inl (found.head, found.begins, is found.head found.has)) c.response_to.ensures.value

pub returns-in-Some-clause-message : goal.returns-in-Some-clause-message
returns-in-Some-clause-message c = let found = c.in-Some.ensures in
    IfOk-weaker c.response_to.result _ (λ response. IsMessageTo c.args.received.now.bytes.now c.args.keeps response)
    (λ response is. inl (found.head, found.begins, is found.head found.has)) c.response_to.ensures.message

pub returns-in-None-clause-value : goal.returns-in-None-clause-value
returns-in-None-clause-value c = IfOk-weaker c.bad_head_response.result _
    (λ response. IsResponse c.args.context.now.site c.args.received.now.bytes.now c.args.body.now c.args.keeps c.args.context.now.actives response)
    (λ response is. inr (c.in-None.ensures, is)) c.bad_head_response.ensures.value

pub returns-in-None-clause-message : goal.returns-in-None-clause-message
returns-in-None-clause-message c = IfOk-weaker c.bad_head_response.result _ (λ response. IsMessageTo c.args.received.now.bytes.now c.args.keeps response)
    (λ response is. inr (c.in-None.ensures, is)) c.bad_head_response.ensures.message

pub returns-in-Some-clause-says : goal.returns-in-Some-clause-says
returns-in-Some-clause-says c = let found = c.in-Some.ensures in
    IfOk-weaker c.response_to.result _ (λ response. SaysWhetherItKeeps c.args.keeps response.bytes)
    (λ response is. says c.args.keeps (is_head found.head) response (is found.head found.has)) c.response_to.ensures.message

pub returns-in-None-clause-says : goal.returns-in-None-clause-says
returns-in-None-clause-says c = IfOk-weaker c.bad_head_response.result _ (λ response. SaysWhetherItKeeps c.args.keeps response.bytes)
    (λ response is. says c.args.keeps false response is) c.bad_head_response.ensures.message
