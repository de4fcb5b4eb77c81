use Rattle.std.proofs.Common.{ap, ◌∙◌, subst}
use Rattle.node_request.specs.Conditions.{has_tag}
use Rattle.node_site.specs.Site as site_file
use Rattle.node_resolver.specs.Answers.{ContextValue, sited_by, sited_in}
use Rattle.node_resolver.specs.Answered.{IsAnsweredTo}
use Rattle.node_resolver.specs.Responses.{untagged_response}
use Rattle.node_resolver.specs.Validators.{validated}
use Rattle.node_resolver.proofs.Tagged.{known_validated}
use Rattle.node_resolver.proofs.validators.validated_response.Goals as goal

pub returns-then-branch : goal.returns-then-branch
returns-then-branch c = λ head has.
    known_validated head c.args.tag.items c.max_age-max_age.result c.args.body.now (sited_in c.args.context.now) c.not_modified.result c.args.request.now.representation
    c.is_tagged.result c.has_tag-has.result c.if-not-is_tagged.false (c.is_tagged.ensures head has) c.if-has.true
    (c.has_tag-has.ensures head (c.fields.ensures.fields head has) ∙ ap (λ t. has_tag t head) c.deref.ensures.value)
    (c.args.request.now.prefers head has)
    (λ tagged. subst (λ (v : ContextValue). IsAnsweredTo head (sited_by c.args.context.now.site.library c.args.context.now.actives.today v.actives.actives)) c.context.view_is
    (subst (λ (s : site_file.SiteValue). IsAnsweredTo head (sited_by s c.args.context.now.actives.today c.context.inside.actives.now)) c.library.ensures
    (c.in_ok-is_answered_to.ensures c.if-branch.true head has tagged c.args.context.now.actives.today))) c.not_modified.ensures
    ∙ ap (λ n. validated head c.args.tag.items n (untagged_response head c.args.body.now (sited_in c.args.context.now)))
    (c.max_age-max_age.ensures ∙ ap (λ (v : ContextValue). v.site.max_age) c.context.view_is)
