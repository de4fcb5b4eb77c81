use Rattle.std.proofs.Common.{◌≡◌, ℕ, List, ap, ◌∙◌}
use Rattle.std.specs.Prelude.{codes}
use Rattle.std.proofs.lemmas.Result.{IfOk-weaker}
use Rattle.httparse.specs.Grammar.{RequestHead}
use Rattle.feed_http_heads.specs.Requests.{HasHead}
use Rattle.node_request.specs.Representations.{representation_of}
use Rattle.node_request.specs.Routes.{route_of}
use Rattle.node_resolver.specs.Answers.{sited_in}
use Rattle.node_resolver.specs.Responses.{path_of, package_response, resolve_response, target_response}
use Rattle.node_resolver.proofs.Routed.{resolve_requested, package_requested, titles_requested, unknown_requested}
use Rattle.node_site.specs.declared.text_table.Text.TheVariants as advice
use Rattle.node_response.specs.declared.status.Status.TheVariants as status
use Rattle.node_site.specs.Site as site_file
use Rattle.node_pages.specs.ErrorPages.{error_response}
use Rattle.node_pages.specs.TitlesPage.{titles_response}
use Rattle.node_resolver.proofs.responses.route_response.Goals as goal

pub returns-in-Resolve : goal.returns-in-Resolve
returns-in-Resolve c = IfOk-weaker c.resolve_response.result
    (λ reply. reply ≡ resolve_response c.args.representation c.args.query.now (sited_in c.args.context.now))
    (λ reply. (head : RequestHead) → HasHead c.args.request.now.parsed.request head → c.args.representation ≡ representation_of (route_of head) c.args.query.now head
    → reply ≡ target_response head c.args.query.now (sited_in c.args.context.now))
    (λ reply is head has wants. is ∙ resolve_requested c.args.request.now.parsed.route (route_of head) c.args.representation (path_of head) c.args.query.now
    head (sited_in c.args.context.now) c.in-Resolve.is (c.args.request.now.parsed.routed head has) wants)
    c.resolve_response.ensures

pub returns-in-Package : goal.returns-in-Package
returns-in-Package c = IfOk-weaker c.package_response.result
    (λ reply. reply ≡ package_response c.args.representation c.package_in.result.now c.args.query.now (sited_in c.args.context.now))
    (λ reply. (head : RequestHead) → HasHead c.args.request.now.parsed.request head → c.args.representation ≡ representation_of (route_of head) c.args.query.now head
    → reply ≡ target_response head c.args.query.now (sited_in c.args.context.now))
    (λ reply is head has wants. is ∙ package_requested c.args.request.now.parsed.route (route_of head) c.args.representation c.args.request.now.path.now (path_of head)
    c.args.query.now c.package_in.result.now head (sited_in c.args.context.now)
    c.in-Package.is (c.args.request.now.parsed.routed head has) c.package_in.ensures (c.args.request.now.has_path head has) wants)
    c.package_response.ensures

pub returns-in-Titles : goal.returns-in-Titles
returns-in-Titles c = IfOk-weaker c.titles_response.result
    (λ reply. reply ≡ titles_response c.args.context.now.site.library c.args.representation c.args.query.now c.args.context.now.actives.actives)
    (λ reply. (head : RequestHead) → HasHead c.args.request.now.parsed.request head → c.args.representation ≡ representation_of (route_of head) c.args.query.now head
    → reply ≡ target_response head c.args.query.now (sited_in c.args.context.now))
    (λ reply is head has wants. is ∙ titles_requested c.args.request.now.parsed.route (route_of head) c.args.representation (path_of head) c.args.query.now
    head (sited_in c.args.context.now) c.in-Titles.is (c.args.request.now.parsed.routed head has) wants)
    c.titles_response.ensures

pub returns-in_default : goal.returns-in_default
returns-in_default c = IfOk-weaker c.error_response.result _
    (λ reply. (head : RequestHead) → HasHead c.args.request.now.parsed.request head → c.args.representation ≡ representation_of (route_of head) c.args.query.now head
    → reply ≡ target_response head c.args.query.now (sited_in c.args.context.now))
    (λ reply is head has wants. is
    ∙ ap (λ (site : site_file.SiteValue). error_response site c.accepted-in_default.result.text status.NotFound c.accepted-in_default.result.representation advice.NoPage
    (codes "NoTarget")) c.library-in_default.ensures
    ∙ ap (λ (t : List ℕ). error_response c.args.context.now.site.library t status.NotFound c.accepted-in_default.result.representation advice.NoPage (codes "NoTarget"))
    c.accepted-in_default.ensures.text
    ∙ unknown_requested c.args.request.now.parsed.route (route_of head) c.accepted-in_default.result.representation (path_of head) c.args.query.now head (sited_in c.args.context.now)
    c.in_default.not-Home c.in_default.not-Status c.in_default.not-Resolve c.in_default.not-Package c.in_default.not-Go c.in_default.not-Titles
    (c.args.request.now.parsed.routed head has) (c.accepted-in_default.ensures.accepted head has))
    c.error_response.ensures
