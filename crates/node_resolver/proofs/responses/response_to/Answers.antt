use Rattle.std.proofs.Common.{◌≡◌, sym, subst, ◌∙◌, ap}
use Rattle.std.proofs.lemmas.Result.{IfOk-weaker}
use Rattle.httparse.specs.Grammar.{RequestHead}
use Rattle.feed_http_heads.specs.Requests.{HasHead, is_head}
use Rattle.node_request.specs.declared.received.ParsedRequest.{ParsedRequest}
use Rattle.node_response.specs.Responses.{ResponseValue, of_site, response_of}
use Rattle.node_response.specs.Messages.{IsMessageFor}
use Rattle.node_resolver.specs.Answers.{sited_in}
use Rattle.node_resolver.specs.Responses.{untagged_response, response_to}
use Rattle.node_resolver.specs.Validators.{unless_preflight, validated}
use Rattle.node_resolver.proofs.Tagged.{IsStatable, tagged_statable}
use Rattle.node_resolver.proofs.responses.response_to.Goals as goal

pub returns-clause-value : goal.returns-clause-value
returns-clause-value c = IfOk-weaker c.sent_response.result _ (λ response. (head : RequestHead) → HasHead c.args.parsed.now.request head
    → response ≡ response_to c.args.context.now.site c.args.keeps head c.args.body.now c.args.context.now.actives)
    (λ response is head has. let asked = subst (λ (p : ParsedRequest). HasHead p.request head) (sym c.new-request.ensures) has in
    is head has
    ∙ ap (λ (r : ResponseValue). response_of c.args.keeps (is_head head) (of_site c.args.context.now.site.library.redirects_sole_hit r))
    (c.unless_preflight-last.ensures head has ∙ ap (unless_preflight head) (c.in_ok-reply.ensures head asked
    ∙ ap (λ t. validated head t c.args.context.now.site.max_age (untagged_response head c.args.body.now (sited_in c.args.context.now))) (c.in_ok-tag.ensures head asked))))
    c.sent_response.ensures.value

pub returns-clause-message : goal.returns-clause-message
returns-clause-message c = IfOk-weaker c.sent_response.result _ (λ response. (head : RequestHead) → HasHead c.args.parsed.now.request head → IsMessageFor c.args.keeps (is_head head) response)
    (λ response is head has.
    let asked = subst (λ (p : ParsedRequest). HasHead p.request head) (sym c.new-request.ensures) has in
    let fits = subst IsStatable (sym (c.unless_preflight-last.ensures head has ∙ ap (unless_preflight head) (c.in_ok-reply.ensures head asked
    ∙ ap (λ t. validated head t c.args.context.now.site.max_age (untagged_response head c.args.body.now (sited_in c.args.context.now))) (c.in_ok-tag.ensures head asked))))
    (tagged_statable c.args.context.now.site head c.args.body.now c.args.context.now.actives) in
    is head has fits.0 fits.1)
    c.sent_response.ensures.message
