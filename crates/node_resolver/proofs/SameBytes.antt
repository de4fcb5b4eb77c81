-- There is one response to a request, by the releases that are active.
use Rattle.std.proofs.Common.{◌≡◌, ℕ, Bool, List, [], ◌∷◌, map, refl, sym, ap, ◌∙◌, inl, inr, subst}
use Rattle.std.specs.Prelude.{All}
use Rattle.std.specs.List.{AllByRecursion}
use Rattle.std.proofs.lemmas.List.Elements.{recursion_from_All}
use Rattle.httparse.specs.Grammar.{RequestHead}
use Rattle.httparse.proofs.GrammarLemmas.{request_unique}
use Rattle.feed_answer.specs.Today.{TodayValue}
use Rattle.feed_names.specs.ReleaseName.{Name}
use Rattle.feed_kbart.specs.HoldingsValue.{HoldingsValue}
use Rattle.feed_kbart.specs.Files.{holdings_of}
use Rattle.feed_model.specs.History.{History}
use Rattle.feed_releases.specs.Actives.{ActiveValue, IsReported, names_of, ReportAlike}
use Rattle.feed_releases.proofs.ByPackage.{listed_alike}
use Rattle.node_response.specs.Responses.{ResponseTextValue}
use Rattle.node_resolver.specs.Answers.{Dated, dated}
use Rattle.node_resolver.specs.Responses.{IsResponse, IsResponseAt, response_to}
use Rattle.node_response.specs.Tags.{SiteValue}
use Rattle.node_resolver.specs.Laws.{KeepsPublished}

-- two responses to the same bytes
pub one_response : (site : SiteValue) (keeps : Bool) (bytes body : List ℕ) (actives : Dated) (response reply : ResponseTextValue) → IsResponse site bytes body keeps actives response
    → IsResponse site bytes body keeps actives reply → response ≡ reply
one_response site keeps bytes body actives response reply (inl (head, begins, is)) (inl (other, also, same)) =
    let heads : head ≡ other = (request_unique bytes head other begins.rest also.rest begins.reads also.reads).0 in
    is ∙ ap (λ (h : RequestHead). response_to site keeps h body actives) heads ∙ sym same
one_response site keeps bytes body actives response reply (inl (head, begins, is)) (inr (none, same)) = absurd (none head begins)
one_response site keeps bytes body actives response reply (inr (none, is)) (inl (head, begins, same)) = absurd (none head begins)
one_response site keeps bytes body actives response reply (inr (none, is)) (inr (nor, same)) = is ∙ sym same

abbrev of_name : Name → HoldingsValue → ActiveValue
of_name name holdings = record { name = name; holdings = holdings }

-- names and files determine the releases
abbrev from_names : (Name → List ℕ) → List Name → List ActiveValue
from_names file names = map (λ name. of_name name (holdings_of (file name))) names

given_by_names : (file : Name → List ℕ) (actives : List ActiveValue) → AllByRecursion (λ (active : ActiveValue). active.holdings ≡ holdings_of (file active.name)) actives
    → actives ≡ from_names file (names_of actives)
given_by_names file [] all = refl
given_by_names file (active ∷ actives) all =
    ap (λ (h : HoldingsValue). of_name active.name h ∷ actives) all.0
    ∙ ap (λ (more : List ActiveValue). of_name active.name (holdings_of (file active.name)) ∷ more) (given_by_names file actives all.1)

-- each holds what the published file of its name says
published : (file : Name → List ℕ) (h : History) (actives : List ActiveValue) → KeepsPublished file h → All (IsReported h) actives
    → All (λ (active : ActiveValue). active.holdings ≡ holdings_of (file active.name)) actives
published file h actives keeps reported = λ i d within.
    let is = reported i d within in is.holdings ∙ ap holdings_of (keeps _ is.text is.file)

-- the names of published files determine what they hold
pub same_actives : (file : Name → List ℕ) (h k : History) (one other : List ActiveValue) → KeepsPublished file h → KeepsPublished file k → All (IsReported h) one → All (IsReported k) other
    → names_of one ≡ names_of other → one ≡ other
same_actives file h k one other first second here there names =
    given_by_names file one (recursion_from_All _ one (published file h one first here)) ∙ ap (from_names file) names
    ∙ sym (given_by_names file other (recursion_from_All _ other (published file k other second there)))

pub same_bytes : (file : Name → List ℕ) (site : SiteValue) (today : TodayValue) (h k : History) (bytes body : List ℕ) (keeps : Bool) (response reply : ResponseTextValue)
    → KeepsPublished file h → KeepsPublished file k → ReportAlike h k → IsResponseAt site today h bytes body keeps response → IsResponseAt site today k bytes body keeps reply → response ≡ reply
same_bytes file site today h k bytes body keeps response reply first second alike (one, here, is) (other, there, also) =
    let names : names_of one ≡ names_of other = listed_alike h k one other alike here there in
    let same : one ≡ other = same_actives file h k one other first second here.each there.each names in
    one_response site keeps bytes body (dated today other) response reply
    (subst (λ (actives : List ActiveValue). IsResponse site bytes body keeps (dated today actives) response) same is) also
