-- The response of a node is by the site of the host alone.
use Rattle.std.proofs.Common.{◌≡◌, ◌⊎◌, ℕ, Bool, true, false, List, Option, Some, None, refl, sym, ap, ◌∙◌, inl, inr, subst}
use Rattle.std.specs.Prelude.{if◌then◌else◌}
use Rattle.std.specs.Option.{option_map_or}
use Rattle.httparse.specs.Grammar.{RequestHead}
use Rattle.httparse.proofs.GrammarLemmas.{request_unique}
use Rattle.feed_http_heads.specs.Requests.{lacks_host}
use Rattle.feed_releases.specs.Actives.{ActiveValue, names_of}
use Rattle.feed_releases.proofs.ByPackage.{listed_alike}
use Rattle.node_request.specs.FetchRequests.{FetchPolicyValue, name_to_fetch}
use Rattle.node_request.specs.FoundRequests.{BeginsWith}
use Rattle.node_request.specs.Hosts.{host_of}
use Rattle.node_response.specs.FetchResponses.{fetch_response}
use Rattle.node_response.specs.Responses.{ResponseTextValue}
use Rattle.node_response.specs.Tags.{SiteValue}
use Rattle.node_resolver.specs.Answers.{Dated, dated}
use Rattle.node_resolver.specs.Laws.{SameReleasesSameNodeBytes}
use Rattle.node_sites.specs.declared.node_sites.NodeSites.{NodeSites}
use Rattle.node_sites.specs.NodeSites.{site_for}
use Rattle.node_resolver.specs.NodeResponses.{AsksForNoFetch, IsNodeResponse, hosted_response, hostless_response, node_response}
use Rattle.node_resolver.specs.SiteLaws.{HostHasItsSite, HostWithoutSiteIsMisdirected, IsForResolver, OtherSitesDoNotCount}
use Rattle.node_resolver.proofs.SameBytes.{same_actives}

one_head : (bytes : List ℕ) (head other : RequestHead) → BeginsWith bytes head → BeginsWith bytes other → head ≡ other
one_head bytes head other begins also = (request_unique bytes head other begins.rest also.rest begins.reads also.reads).0

-- the response by the site of the host
abbrev chosen : Option SiteValue → FetchPolicyValue → Bool → Dated → RequestHead → List ℕ → ResponseTextValue
chosen site policy keeps actives head body =
    if lacks_host head then hostless_response keeps head
    else option_map_or (λ name. fetch_response policy keeps head) (name_to_fetch head) (hosted_response site keeps actives head body)

-- two responses to one request by the same site
same_site : (one other : NodeSites) (policy : FetchPolicyValue) (keeps : Bool) (actives : Dated) (head : RequestHead) (body : List ℕ)
    → site_for (host_of head) one ≡ site_for (host_of head) other
    → node_response one policy keeps actives head body ≡ node_response other policy keeps actives head body
same_site one other policy keeps actives head body same = ap (λ (site : Option SiteValue). chosen site policy keeps actives head body) same

pub other_sites : OtherSitesDoNotCount
other_sites one other policy bytes body keeps actives response reply same (inl (head, begins, is)) (inl (too, also, answers)) =
    is ∙ same_site one other policy keeps actives head body (same head begins)
    ∙ ap (λ (h : RequestHead). node_response other policy keeps actives h body) (one_head bytes head too begins also) ∙ sym answers
other_sites one other policy bytes body keeps actives response reply same (inl (head, begins, is)) (inr (none, answers)) = absurd (none head begins)
other_sites one other policy bytes body keeps actives response reply same (inr (none, is)) (inl (head, begins, answers)) = absurd (none head begins)
other_sites one other policy bytes body keeps actives response reply same (inr (none, is)) (inr (nor, answers)) = is ∙ sym answers

-- whether a client may fetch counts only for a fetch
plain_chosen : (lacks : Bool) (named : Option (List ℕ)) (hostless one other plain : ResponseTextValue) → (lacks ≡ true) ⊎ (named ≡ None)
    → (if lacks then hostless else option_map_or (λ name. one) named plain) ≡ (if lacks then hostless else option_map_or (λ name. other) named plain)
plain_chosen true named hostless one other plain either = refl
plain_chosen false None hostless one other plain either = refl
plain_chosen false (Some name) hostless one other plain (inl e) = absurd (cc)
plain_chosen false (Some name) hostless one other plain (inr e) = absurd (cc)

any_policy : (sites : NodeSites) (policy other : FetchPolicyValue) (bytes body : List ℕ) (keeps : Bool) (actives : Dated) (response : ResponseTextValue)
    → AsksForNoFetch bytes → IsNodeResponse sites policy bytes body keeps actives response → IsNodeResponse sites other bytes body keeps actives response
any_policy sites policy other bytes body keeps actives response plain (inl (head, begins, is)) = inl (
  head,
  begins,
  is ∙ plain_chosen (lacks_host head) (name_to_fetch head) (hostless_response keeps head) (fetch_response policy keeps head) (fetch_response other keeps head)
      (hosted_response (site_for (host_of head) sites) keeps actives head body) (plain head begins),
)
any_policy sites policy other bytes body keeps actives response plain (inr none) = inr none

pub same_node_bytes : SameReleasesSameNodeBytes
same_node_bytes file sites others today h k policy other bytes body keeps response reply first second alike site plain (one, here, is) (two, there, also) =
    let names : names_of one ≡ names_of two = listed_alike h k one two alike here there in
    let same : one ≡ two = same_actives file h k one two first second here.each there.each names in
    other_sites sites others other bytes body keeps (dated today two) response reply site
    (any_policy sites policy other bytes body keeps (dated today two) response plain
    (subst (λ (actives : List ActiveValue). IsNodeResponse sites policy bytes body keeps (dated today actives) response) same is)) also

-- the response to a request for a resolver
by_site : (sites : NodeSites) (policy : FetchPolicyValue) (bytes body : List ℕ) (keeps : Bool) (actives : Dated) (head : RequestHead)
    (response : ResponseTextValue) → IsForResolver bytes head → IsNodeResponse sites policy bytes body keeps actives response
    → response ≡ hosted_response (site_for (host_of head) sites) keeps actives head body
by_site sites policy bytes body keeps actives head response for (inl (other, also, is)) =
    is ∙ ap (λ (h : RequestHead). node_response sites policy keeps actives h body) (one_head bytes other head also for.begins)
    ∙ ap (λ (l : Bool). if l then hostless_response keeps head
    else option_map_or (λ name. fetch_response policy keeps head) (name_to_fetch head) (hosted_response (site_for (host_of head) sites) keeps actives head body)) for.host
    ∙ ap (λ (o : Option (List ℕ)). option_map_or (λ name. fetch_response policy keeps head) o (hosted_response (site_for (host_of head) sites) keeps actives head body)) for.no_fetch
by_site sites policy bytes body keeps actives head response for (inr (none, is)) = absurd (none head for.begins)

pub own_site : HostHasItsSite
own_site sites site policy bytes body keeps actives head response for has is = inl (
  head,
  for.begins,
  by_site sites policy bytes body keeps actives head response for is
      ∙ ap (λ (o : Option SiteValue). hosted_response o keeps actives head body) has,
)

pub no_site : HostWithoutSiteIsMisdirected
no_site sites policy bytes body keeps actives head response for none is =
    let same = by_site sites policy bytes body keeps actives head response for is
    ∙ ap (λ (o : Option SiteValue). hosted_response o keeps actives head body) none in
    (same, ap (λ (r : ResponseTextValue). r.status) same)
