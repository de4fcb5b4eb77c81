use Rattle.std.proofs.Common.{◌≡◌, ℕ, List, true, sym, ◌∙◌, subst}
use Rattle.std.proofs.lemmas.Result.{IfOk-weaker}
use Rattle.httparse.specs.Grammar.{RequestHead}
use Rattle.feed_http_heads.specs.Requests.{HasHead}
use Rattle.node_request.specs.Routes.{route_of}
use Rattle.node_request.specs.declared.route.Route.{Route}
use Rattle.feed_answer.specs.Today.{TodayValue}
use Rattle.node_resolver.specs.Answers.{Sited, sited_by}
use Rattle.node_resolver.specs.Answered.{IsAnswered, IsAnsweredTo}
use Rattle.node_resolver.specs.Responses.{path_of, target_query}
use Rattle.node_resolver.specs.Validators.{is_tagged}
use Rattle.node_resolver.proofs.Requests.{answered_to}
use Rattle.node_resolver.proofs.validators.is_answered_to.Goals as goal

same_asked : (r s : Route) (path other query text : List ℕ) (actives : Sited) → r ≡ s → path ≡ other → query ≡ text
    → IsAnswered r path query actives → IsAnswered s other text actives
same_asked r s path other query text actives routed placed asked answered =
    subst (λ o. IsAnswered o other text actives) routed (subst (λ (p : List ℕ). IsAnswered r p text actives) placed (subst (λ (q : List ℕ). IsAnswered r path q actives) asked answered))

pub returns : goal.returns
returns c = IfOk-weaker c.is_answered.result _
    (λ is. is ≡ true → (head : RequestHead) → HasHead c.args.request.now.parsed.request head → is_tagged head ≡ true
    → (today : TodayValue) → IsAnsweredTo head (sited_by c.args.library.now today c.args.actives.now))
    (λ is answered yes head has tagged today. answered_to head (sited_by c.args.library.now today c.args.actives.now)
    (sym (c.lacks_host.ensures head has) ∙ c.if-lacks_host.false)
    (sym (c.has_field.ensures head.fields (c.fields.ensures.fields head has)) ∙ c.if-has_field.false)
    tagged
    (same_asked c.args.request.now.parsed.route (route_of head) c.args.request.now.path.now (path_of head) c.args.request.now.query.now (target_query head)
    (sited_by c.args.library.now today c.args.actives.now) (c.args.request.now.parsed.routed head has) (c.args.request.now.has_path head has)
    (c.args.request.now.has_query head has) (answered yes today)))
    c.is_answered.ensures
