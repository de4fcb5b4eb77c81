-- The response of a node to a request.
use Rattle.std.specs.Prelude.{◌≡◌, ◌⊎◌, ℕ, Bool, true, false, if◌then◌else◌, List, codes, Option, Some, None, is_some}
use Rattle.std.specs.Option.{option_map_or}
use Rattle.httparse.specs.Grammar.{RequestHead}
use Rattle.feed_http_heads.specs.Options.{SaysWhetherItKeeps}
use Rattle.feed_http_heads.specs.Requests.{lacks_host}
use Rattle.feed_answer.specs.Today.{TodayValue}
use Rattle.feed_model.specs.History.{History}
use Rattle.feed_releases.specs.Actives.{ActiveValue, AreReported}
use Rattle.node_request.specs.FoundRequests.{BeginsWith}
use Rattle.node_request.specs.FetchRequests.{FetchPolicyValue, name_to_fetch}
use Rattle.node_request.specs.Hosts.{host_of}
use Rattle.node_request.specs.Representations.{representation_of}
use Rattle.node_request.specs.Routes.{route_of}
use Rattle.node_request.specs.declared.representation.Representation.TheVariants.{Text}
use Rattle.node_response.specs.Responses.{ResponseTextValue, refusal, response_of}
use Rattle.node_response.specs.declared.status.Status.TheVariants as status
use Rattle.node_response.specs.FetchResponses.{fetch_response}
use Rattle.feed_http_heads.specs.Requests.{is_head}
use Rattle.node_response.specs.Messages.{IsMessageFor, BeginsStream}
use Rattle.node_response.specs.Tags.{SiteValue}
use Rattle.node_resolver.specs.Answers.{Dated, dated}
use Rattle.node_sites.specs.declared.node_sites.NodeSites.{NodeSites}
use Rattle.node_sites.specs.NodeSites.{site_for}
use Rattle.node_resolver.specs.Responses.{response_to, target_query, IsResponseToNone}
use Rattle.node_resolver.specs.Messages.{IsMessageTo}

-- the response to a request that names no host, whatever sites the node has
abbrev pub hostless_response : Bool → RequestHead → ResponseTextValue
hostless_response keeps head = response_of keeps (is_head head) (refusal status.BadRequest Text (codes "NoHost"))

-- the response to a request for a host without a site (RFC 9110, section 15.5.20), in the representation that it asks for
abbrev pub misdirected_response : Bool → RequestHead → ResponseTextValue
misdirected_response keeps head =
    response_of keeps (is_head head) (refusal status.Misdirected (representation_of (route_of head) (target_query head) head) (codes "NoSite"))

-- the response by the site of a host, if it has one
abbrev pub hosted_response : Option SiteValue → Bool → Dated → RequestHead → List ℕ → ResponseTextValue
hosted_response None keeps actives head body = misdirected_response keeps head
hosted_response (Some site) keeps actives head body = response_to site keeps head body actives

-- the response to a request with this head and body: that to a fetch request, or else that of the resolver, with the site of
-- the host that the request is for
abbrev pub node_response : NodeSites → FetchPolicyValue → Bool → Dated → RequestHead → List ℕ → ResponseTextValue
node_response sites policy keeps actives head body =
    if lacks_host head then hostless_response keeps head
    else option_map_or (λ name. fetch_response policy keeps head) (name_to_fetch head)
    (hosted_response (site_for (host_of head) sites) keeps actives head body)

-- the response to the bytes of a request and to its body, after which the connection is kept or not
abbrev pub IsNodeResponse : NodeSites → FetchPolicyValue → List ℕ → List ℕ → Bool → Dated → ResponseTextValue → Type 0
IsNodeResponse sites policy bytes body keeps actives response =
    ((head : RequestHead) × BeginsWith bytes head × (response ≡ node_response sites policy keeps actives head body))
    ⊎ IsResponseToNone bytes keeps response

-- the response has these bytes
abbrev pub IsNodeResponseText : NodeSites → FetchPolicyValue → List ℕ → List ℕ → Bool → Dated → List ℕ → Type 0
IsNodeResponseText sites policy bytes body keeps actives text =
    (response : ResponseTextValue) × IsNodeResponse sites policy bytes body keeps actives response × (text ≡ response.bytes)

-- the response on a day from exactly the releases that a feed with this history reports, with the holdings of their
-- complete files
abbrev pub IsNodeResponseAt : NodeSites → FetchPolicyValue → TodayValue → History → List ℕ → List ℕ → Bool → ResponseTextValue → Type 0
IsNodeResponseAt sites policy today h bytes body keeps response =
    (actives : List ActiveValue) × AreReported h actives × IsNodeResponse sites policy bytes body keeps (dated today actives) response

-- two nodes have the same site for the host that the bytes are for
abbrev pub HaveSameSite : List ℕ → NodeSites → NodeSites → Type 0
HaveSameSite bytes one other = (head : RequestHead) → BeginsWith bytes head → site_for (host_of head) one ≡ site_for (host_of head) other

-- the bytes do not ask the node to fetch: they begin with no head, or the head lacks a host, or is not a POST of `/feed/`
abbrev pub AsksForNoFetch : List ℕ → Type 0
AsksForNoFetch bytes = (head : RequestHead) → BeginsWith bytes head → (lacks_host head ≡ true) ⊎ (name_to_fetch head ≡ None)

-- a response of a node as a client parses it: like that of a resolver, or the beginning of one that reports progress
abbrev pub IsNodeMessage : List ℕ → Bool → ResponseTextValue → Type 0
IsNodeMessage bytes keeps response = IsMessageTo bytes keeps response ⊎ BeginsStream response

-- the head asks the node to fetch: it has one host, and is a POST of `/feed/` and a name
abbrev pub IsFetchHead : RequestHead → Type 0
IsFetchHead head = (lacks_host head ≡ false) × (is_some (name_to_fetch head) ≡ true)

-- a response to this head as a client parses it: one that reports progress only if it asks the node to fetch
abbrev pub IsNodeMessageFor : Bool → RequestHead → ResponseTextValue → Type 0
IsNodeMessageFor keeps head response = IsMessageFor keeps (is_head head) response ⊎ (BeginsStream response × IsFetchHead head)

-- the bytes ask the node to fetch
abbrev pub AsksForFetch : List ℕ → Type 0
AsksForFetch bytes = (head : RequestHead) × BeginsWith bytes head × IsFetchHead head

-- the response to the bytes says whether the connection is kept; only one that asks the node to fetch may get a
-- response that says that it is closed although it is kept: the response that reports progress ends with the connection
abbrev pub SaysOfConnection : List ℕ → Bool → ResponseTextValue → Type 0
SaysOfConnection bytes keeps response =
    SaysWhetherItKeeps keeps response.bytes ⊎ (AsksForFetch bytes × SaysWhetherItKeeps false response.bytes)
