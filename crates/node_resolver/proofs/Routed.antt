-- From the route of a request to the response.
use Rattle.std.proofs.Common.{◌≡◌, ℕ, List, ap, refl, sym, ◌∙◌}
use Rattle.std.specs.Prelude.{◌≢◌, codes}
use Rattle.httparse.specs.Grammar.{RequestHead}
use Rattle.node_resolver.specs.Answers.{Sited}
use Rattle.node_request.specs.Representations.{accepted_representation, representation_of}
use Rattle.node_request.specs.Routes.{package_in}
use Rattle.node_resolver.specs.Responses.{route_response, resolve_response, package_response}
use Rattle.node_site.specs.declared.text_table.Text.TheVariants as advice
use Rattle.node_response.specs.declared.status.Status.TheVariants as status
use Rattle.node_pages.specs.ErrorPages.{error_response}
use Rattle.node_pages.specs.TitlesPage.{titles_response}
use Rattle.node_request.specs.declared.representation.Representation.{Representation}
use Rattle.node_request.specs.declared.route.Route.{Route}
use Rattle.node_request.specs.declared.route.Route.TheVariants as route

-- the answer of all packages
pub resolve_requested : (a b : Route) (representation : Representation) (path query : List ℕ) (head : RequestHead) (actives : Sited)
    → a ≡ route.Resolve → a ≡ b → representation ≡ representation_of b query head
    → resolve_response representation query actives ≡ route_response b head path query actives
resolve_requested a b representation path query head actives is of wants =
    ap (λ (r : Representation). resolve_response r query actives) wants
    ∙ ap (λ (o : Route). resolve_response (representation_of o query head) query actives) (sym of ∙ is)
    ∙ sym (ap (λ (o : Route). route_response o head path query actives) (sym of ∙ is))

-- the answer of one
pub package_requested : (a b : Route) (representation : Representation) (path other query package_name : List ℕ) (head : RequestHead) (actives : Sited)
    → a ≡ route.Package → a ≡ b → package_name ≡ package_in path → path ≡ other → representation ≡ representation_of b query head
    → package_response representation package_name query actives ≡ route_response b head other query actives
package_requested a b representation path other query package_name head actives is of named same wants =
    ap (λ (r : Representation). package_response r package_name query actives) wants
    ∙ ap (λ (p : List ℕ). package_response (representation_of b query head) p query actives) (named ∙ ap package_in same)
    ∙ ap (λ (o : Route). package_response (representation_of o query head) (package_in other) query actives) (sym of ∙ is)
    ∙ sym (ap (λ (o : Route). route_response o head other query actives) (sym of ∙ is))

-- the titles that contain a text
pub titles_requested : (a b : Route) (representation : Representation) (path query : List ℕ) (head : RequestHead) (actives : Sited)
    → a ≡ route.Titles → a ≡ b → representation ≡ representation_of b query head
    → titles_response actives.library representation query actives.actives ≡ route_response b head path query actives
titles_requested a b representation path query head actives is of wants =
    ap (λ (r : Representation). titles_response actives.library r query actives.actives) wants
    ∙ ap (λ (o : Route). titles_response actives.library (representation_of o query head) query actives.actives) (sym of ∙ is)
    ∙ sym (ap (λ (o : Route). route_response o head path query actives) (sym of ∙ is))

-- a route without a response of its own
without_response : (a : Route) (path query : List ℕ) (head : RequestHead) (actives : Sited)
    → a ≢ route.Home → a ≢ route.Status → a ≢ route.Resolve → a ≢ route.Package → a ≢ route.Go → a ≢ route.Titles
    → error_response actives.library query status.NotFound (accepted_representation head) advice.NoPage (codes "NoTarget") ≡ route_response a head path query actives
without_response route.Home path query head actives home shown resolve packaged go titles = absurd (home refl)
without_response route.Status path query head actives home shown resolve packaged go titles = absurd (shown refl)
without_response route.Resolve path query head actives home shown resolve packaged go titles = absurd (resolve refl)
without_response route.Package path query head actives home shown resolve packaged go titles = absurd (packaged refl)
without_response route.Go path query head actives home shown resolve packaged go titles = absurd (go refl)
without_response route.Titles path query head actives home shown resolve packaged go titles = absurd (titles refl)
without_response other path query head actives home shown resolve packaged go titles = refl

pub unknown_requested : (a b : Route) (representation : Representation) (path query : List ℕ) (head : RequestHead) (actives : Sited)
    → a ≢ route.Home → a ≢ route.Status → a ≢ route.Resolve → a ≢ route.Package → a ≢ route.Go → a ≢ route.Titles → a ≡ b
    → representation ≡ accepted_representation head
    → error_response actives.library query status.NotFound representation advice.NoPage (codes "NoTarget") ≡ route_response b head path query actives
unknown_requested a b representation path query head actives home shown resolve packaged go titles of accepts =
    ap (λ (r : Representation). error_response actives.library query status.NotFound r advice.NoPage (codes "NoTarget")) accepts
    ∙ without_response a path query head actives home shown resolve packaged go titles
    ∙ ap (λ (o : Route). route_response o head path query actives) of
