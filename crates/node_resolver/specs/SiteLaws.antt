-- Laws of the sites of hosts.
use Rattle.std.specs.Prelude.{◌≡◌, ℕ, Bool, false, List, Some, None}
use Rattle.httparse.specs.Grammar.{RequestHead}
use Rattle.feed_http_heads.specs.Requests.{lacks_host}
use Rattle.node_request.specs.FetchRequests.{FetchPolicyValue, name_to_fetch}
use Rattle.node_request.specs.FoundRequests.{BeginsWith}
use Rattle.node_request.specs.Hosts.{host_of}
use Rattle.node_response.specs.Responses.{ResponseTextValue}
use Rattle.node_response.specs.Tags.{SiteValue}
use Rattle.node_resolver.specs.Answers.{Dated}
use Rattle.node_sites.specs.declared.node_sites.NodeSites.{NodeSites}
use Rattle.node_sites.specs.NodeSites.{site_for}
use Rattle.node_resolver.specs.NodeResponses.{HaveSameSite, IsNodeResponse, misdirected_response}
use Rattle.node_resolver.specs.Responses.{IsResponse}

-- the response to a request does not depend on the sites of other hosts
abbrev pub OtherSitesDoNotCount : Type 0
OtherSitesDoNotCount =
    (one other : NodeSites) (policy : FetchPolicyValue) (bytes body : List ℕ) (keeps : Bool) (actives : Dated)
    (response reply : ResponseTextValue)
    → HaveSameSite bytes one other → IsNodeResponse one policy bytes body keeps actives response
    → IsNodeResponse other policy bytes body keeps actives reply → response ≡ reply

-- a request for a resolver, and not to fetch
pub record IsForResolver (bytes : List ℕ) (head : RequestHead) : Type 0 where
  pub begins : BeginsWith bytes head
  pub host : lacks_host head ≡ false
  pub no_fetch : name_to_fetch head ≡ None

-- the response to a request for a host that has a site is that of a resolver with this site. So it has all that is
-- proved of such a response: its hits are held, its links are linked to, its tag is that of the site
abbrev pub HostHasItsSite : Type 0
HostHasItsSite =
    (sites : NodeSites) (site : SiteValue) (policy : FetchPolicyValue) (bytes body : List ℕ) (keeps : Bool) (actives : Dated)
    (head : RequestHead) (response : ResponseTextValue)
    → IsForResolver bytes head → site_for (host_of head) sites ≡ Some site → IsNodeResponse sites policy bytes body keeps actives response
    → IsResponse site bytes body keeps actives response

-- a host without a site gets 421 (RFC 9110, section 15.5.20), whatever else it asks for
abbrev pub HostWithoutSiteIsMisdirected : Type 0
HostWithoutSiteIsMisdirected =
    (sites : NodeSites) (policy : FetchPolicyValue) (bytes body : List ℕ) (keeps : Bool) (actives : Dated) (head : RequestHead)
    (response : ResponseTextValue)
    → IsForResolver bytes head → site_for (host_of head) sites ≡ None → IsNodeResponse sites policy bytes body keeps actives response
    → (response ≡ misdirected_response keeps head) × (response.status ≡ 421)
