-- The bytes of responses, as a client parses them.
use Rattle.std.specs.Prelude.{◌≡◌, ◌<◌, ◌^◌, ◌⊎◌, ◌||◌, ℕ, Bool, true, false, List, [], ◌∷◌, codes, filter, Option, Some, None, Ok}
use Rattle.std.specs.Option.{option_or}
use Rattle.httparse.specs.Grammar.{RequestHead, ResponseHead}
use Rattle.feed_http_heads.specs.Fields.{values_named}
use Rattle.feed_http_heads.specs.Requests.{lacks_host, is_get, is_head}
use Rattle.feed_http_heads.specs.Targets.{origin_form}
use Rattle.node_hits.specs.Searches.{SearchValue}
use Rattle.node_request.specs.FoundRequests.{BeginsWith, HasNoHead}
use Rattle.node_request.specs.Routes.{route_of, query_in}
use Rattle.node_request.specs.declared.representation.Representation.{Representation}
use Rattle.node_request.specs.declared.representation.Representation.TheVariants.{Html}
use Rattle.node_request.specs.declared.route.Route.TheVariants.{Go}
use Rattle.node_response.specs.Responses.{ResponseTextValue, is_document, of_site, response_of}
use Rattle.node_response.specs.Messages.{IsMessage, IsMessageFor}
use Rattle.node_response.specs.declared.status.Status.TheVariants as status
use Rattle.node_hits.specs.Lookups.{asked_of}
use Rattle.node_hits.specs.Hits.{ReleaseHitValue, is_open}
use Rattle.node_hits.specs.Laws.{IsSoleHit}
use Rattle.node_hits.specs.Ranks.{IsBestLink}
use Rattle.node_hits.specs.Tallies.{outcome_of}
use Rattle.std.specs.Str.{IsUtf8}
use Rattle.node_response.specs.Tags.{SiteValue}
use Rattle.node_resolver.specs.Answers.{Dated, Sited, found_among, hits_among, sited, tally_among}
use Rattle.node_request.specs.Forms.{form_of}
use Rattle.node_resolver.specs.Responses.{IsResponse, library_target, untagged_response, has_coded_body, path_of, resolve_response, site_response, target_query}

-- the response to these bytes is one head and a body whose length the head states, or the head alone if the bytes begin
-- with a HEAD. The head announces that the connection is closed exactly if it is not kept
abbrev pub IsMessageTo : List ℕ → Bool → ResponseTextValue → Type 0
IsMessageTo bytes keeps response =
    ((head : RequestHead) × BeginsWith bytes head × IsMessageFor keeps (is_head head) response)
    ⊎ (HasNoHead bytes × IsMessageFor keeps false response)

-- the same head with the method GET
abbrev pub as_get : RequestHead → RequestHead
as_get head = record {
  blank = head.blank;
  method = codes "GET";
  target = head.target;
  minor = head.minor;
  line_end = head.line_end;
  fields = head.fields;
  last = head.last;
}

-- the one response is the head of the other, and nothing after it
abbrev pub IsHeadAlone : ResponseTextValue → ResponseTextValue → Type 0
IsHeadAlone response other = (head : ResponseHead) × (body : List ℕ) × IsMessage other head body × IsMessage response head []

-- the response to a HEAD is the head of the response to the same request with the method GET
abbrev pub HeadIsHeadOfGet : Type 0
HeadIsHeadOfGet =
    (site : SiteValue) (keeps : Bool) (actives : Dated) (bytes asked body other : List ℕ) (head : RequestHead) (response reply : ResponseTextValue)
    → is_head head ≡ true → BeginsWith bytes head → BeginsWith asked (as_get head)
    → IsResponse site bytes body keeps actives response → IsResponse site asked other keeps actives reply
    → reply.body_length < 2 ^ 64 → site.max_age < 2 ^ 64
    → IsHeadAlone response reply

-- the request is one of `/go` with a query that asks for this search
pub record AsksToGo (head : RequestHead) (search : SearchValue) : Type 0 where
  pub host : lacks_host head ≡ false
  pub method : (is_get head || is_head head) ≡ true
  pub body : has_coded_body head ≡ false
  pub route : route_of head ≡ Go
  pub asked : asked_of (query_in (origin_form head.target)) ≡ Ok search

-- the response is a redirect to this URL, or there is none to go to: not at all, or not in the rows that were looked at
abbrev pub GoesTo : Option (List ℕ) → Bool → ResponseTextValue → Type 0
GoesTo None true response = response.status ≡ 404
GoesTo None false response = response.status ≡ 200
GoesTo (Some url) is_whole response =
    (response.status ≡ 302) × ((head : ResponseHead) × IsMessage response head [] × (values_named (codes "location") head.fields ≡ url ∷ []))

-- a reader is sent to the best of the hits that are open, or else to the link of the library, or else to the best hit of all:
-- no other such hit ranks above it
pub record IsFollowed (hits : List ReleaseHitValue) (library target : Option (List ℕ)) : Type 0 where
  pub of_open : Option (List ℕ)
  pub of_all : Option (List ℕ)
  pub is_best_open : IsBestLink (filter is_open hits) of_open
  pub is_best : IsBestLink hits of_all
  pub follows : target ≡ option_or of_open (option_or library of_all)

-- `/go` redirects to such a link, by the counted hits and the links of the library
abbrev pub GoesToBest : Type 0
GoesToBest =
    (site : SiteValue) (keeps : Bool) (actives : Dated) (bytes body : List ℕ) (head : RequestHead) (search : SearchValue) (response : ResponseTextValue)
    → BeginsWith bytes head → AsksToGo head search → IsResponse site bytes body keeps actives response
    → (target : Option (List ℕ))
    × IsFollowed (hits_among search (sited site actives))
    (library_target site.library (outcome_of (tally_among search (sited site actives))) search) target
    × GoesTo target (tally_among search (sited site actives)).is_whole response

-- `/resolve` redirects only a browser, only if the library wants it, and to the link of the only hit. That hit is
-- available, covers the whole of what is asked for, in full text, and the library has all those days
abbrev pub RedirectsSoleHit : Type 0
RedirectsSoleHit =
    (representation : Representation) (text : List ℕ) (search : SearchValue) (actives : Sited)
    → asked_of text ≡ Ok search → (resolve_response representation text actives).status ≡ status.Found
    → (representation ≡ Html) × (actives.library.redirects_sole_hit ≡ true)
    × IsSoleHit (found_among search actives) (resolve_response representation text actives).location

-- a GET that asks what a form asks: the same fields and path, and the form as its query
pub record IsGetOfForm (post get : RequestHead) (body : List ℕ) : Type 0 where
  pub method : get.method ≡ codes "GET"
  pub minor : get.minor ≡ post.minor
  pub fields : get.fields ≡ post.fields
  pub path : path_of get ≡ path_of post
  pub query : target_query get ≡ body

-- the response to a form that is read is that to the GET whose query is the form, before any condition. It has the same
-- status, media type, body and location, whatever follows the GET. It has no entity tag, since If-None-Match speaks of
-- GET and HEAD alone (RFC 9110, section 13.1.2)
abbrev pub FormIsGet : Type 0
FormIsGet =
    (site : SiteValue) (keeps : Bool) (actives : Dated) (bytes body other : List ℕ) (post get : RequestHead) (n : ℕ)
    (response : ResponseTextValue)
    → form_of post ≡ Some (Ok n) → IsGetOfForm post get body → BeginsWith bytes post
    → IsResponse site bytes body keeps actives response
    → (response ≡ response_of keeps false (of_site site.library.redirects_sole_hit (untagged_response get other (sited site actives)))) × ((untagged_response get other (sited site actives)).tag ≡ [])

-- the response to a request is UTF-8 if it is a document of HTML or XML or a fragment of one, whatever the query, the lists and the site file have
abbrev pub EveryPageIsUtf8 : Type 0
EveryPageIsUtf8 =
    (site : SiteValue) (head : RequestHead) (body : List ℕ) (actives : Dated)
    → is_document (site_response site head body actives).representation ≡ true → IsUtf8 (site_response site head body actives).body
