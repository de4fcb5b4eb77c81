use Rattle.std.proofs.Common.{◌≡◌, ◌∙◌, true, ap, sym}
use Rattle.std.specs.Prelude.{is_some, position}
use Rattle.std.proofs.lemmas.Result.{IfOk-weaker}
use Rattle.feed_answer.specs.Today.{TodayValue}
use Rattle.node_resolver.specs.Answers.{is_of, sited_by}
use Rattle.node_resolver.specs.Answered.{IsAnswered}
use Rattle.node_resolver.proofs.Requests.{package_answered, resolve_answered}
use Rattle.node_resolver.proofs.validators.is_answered.Goals as goal

pub returns-in-Resolve : goal.returns-in-Resolve
returns-in-Resolve c = IfOk-weaker c.shows_hits.result _
    (λ is. is ≡ true → (today : TodayValue) → IsAnswered c.args.request.now.parsed.route c.args.request.now.path.now c.args.request.now.query.now
    (sited_by c.args.library.now today c.args.actives.now))
    (λ is shown yes today. let asked = shown yes in
    resolve_answered c.args.request.now.parsed.route c.args.request.now.path.now c.args.request.now.query.now (sited_by c.args.library.now today c.args.actives.now)
    asked.1.0 c.in-Resolve.is asked.0 asked.1.1)
    c.shows_hits.ensures

pub returns-then-is_some : goal.returns-then-is_some
returns-then-is_some c = IfOk-weaker c.shows_hits-then-is_some.result _
    (λ is. is ≡ true → (today : TodayValue) → IsAnswered c.args.request.now.parsed.route c.args.request.now.path.now c.args.request.now.query.now
    (sited_by c.args.library.now today c.args.actives.now))
    (λ is shown yes today. let asked = shown yes in
    package_answered c.args.request.now.parsed.route c.args.request.now.path.now c.args.request.now.query.now (sited_by c.args.library.now today c.args.actives.now)
    asked.1.0 c.in-Package.is
    (ap (λ p. is_some (position (is_of p) c.args.actives.now)) (sym c.package_in.ensures) ∙ ap is_some (sym c.position_of.ensures) ∙ sym c.is_some.ensures ∙ c.if-is_some.true)
    asked.0 asked.1.1)
    c.shows_hits-then-is_some.ensures
