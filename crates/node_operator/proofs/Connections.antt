-- A response to the operator says whether the connection is kept.
use Rattle.std.proofs.Common.{◌≡◌, ℕ, Bool, true, false, not, if◌then◌else◌, List, [], codes, Option, Some, None, is_none, Result, Ok, Err, IfOk, inl, inr, refl, sym, subst}
use Rattle.std.specs.Prelude.{MatchBool}
use Rattle.std.proofs.lemmas.List.Elements.{All-nil}
use Rattle.httparse.specs.Grammar.{AllPass, RequestHead, is_uri_byte}
use Rattle.feed_http_heads.specs.Requests.{is_head}
use Rattle.feed_http_heads.specs.Targets.{origin_form}
use Rattle.node_request.specs.FetchRequests.{is_authorized}
use Rattle.node_request.specs.FoundRequests.{BeginsWith}
use Rattle.node_request.specs.Routes.{query_in}
use Rattle.node_request.specs.SitesRequests.{sites_query}
use Rattle.node_request.specs.declared.representation.Representation.TheVariants.{Text}
use Rattle.node_response.specs.Messages.{IsLocation, IsMessageFor}
use Rattle.node_response.specs.Responses.{ResponseValue, ResponseTextValue, refusal}
use Rattle.node_response.specs.declared.status.Status.TheVariants as status
use Rattle.node_response.proofs.HeadsRead.{message_says, stream_says}
use Rattle.node_operator.specs.declared.feed_responses.FeedTarget.{FeedTarget}
use Rattle.node_operator.specs.declared.feed_responses.FeedTarget.TheVariants.{Releases, End, OtherMethod, Release}
use Rattle.node_operator.specs.FeedResponses.{IsEndResponse, IsResponseToFeedTarget, IsListResponse}
use Rattle.node_operator.specs.SitesResponses.{IsSitesMessage, SaysOfSites, is_for_sites, is_post, sites_refusal}

-- a response without a location and without a tag, so that both can be stated
abbrev pub IsPlain : ResponseValue → Type 0
IsPlain reply = (reply.location ≡ []) × (reply.tag ≡ [])

no_bytes : AllPass is_uri_byte []
no_bytes = All-nil (λ b. is_uri_byte b ≡ true)

pub stated : (reply : ResponseValue) → IsPlain reply → IsLocation reply.location × AllPass is_uri_byte reply.tag
stated reply plain = (subst (λ t. AllPass is_uri_byte t) (sym plain.0) no_bytes, subst (λ t. AllPass is_uri_byte t) (sym plain.1) no_bytes)

-- such is a response about the feed
ended_plain : (has_token is_busy : Bool) (reply : ResponseValue) → IsEndResponse has_token is_busy reply → IsPlain reply
ended_plain false is_busy reply is = rw is (refl, refl)
ended_plain true true reply is = rw is (refl, refl)
ended_plain true false reply is = rw is (refl, refl)

pub feed_plain : (token : List ℕ) (is_busy : Bool) (head : RequestHead) (target : FeedTarget) (reply : ResponseValue)
    → IsResponseToFeedTarget token is_busy head target reply → IsPlain reply
feed_plain token is_busy head Release reply is = rw is (refl, refl)
feed_plain token is_busy head OtherMethod reply is = rw is (refl, refl)
feed_plain token is_busy head Releases reply is = by (is_authorized token head) is
  where
    by : (b : Bool) → MatchBool b (IsListResponse reply) (reply ≡ refusal status.Unauthorized Text (codes "Unauthorized")) → IsPlain reply
    by true (representation, body, list) = rw list (refl, refl)
    by false refused = rw refused (refl, refl)
feed_plain token is_busy head End reply is = ended_plain (is_authorized token head) is_busy reply is

-- and the refusal of a request of `/sites`
refused_if : (test : Bool) (reply other : ResponseValue) (rest : Option ResponseValue) → IsPlain other → (Some reply ≡ rest → IsPlain reply)
    → Some reply ≡ (if test then Some other else rest) → IsPlain reply
refused_if true reply other rest fits behind is = let same : reply ≡ other = cc in rw same fits
refused_if false reply other rest fits behind is = behind is

pub refused_plain : (token : List ℕ) (has_folder is_reloading : Bool) (head : RequestHead) (reply : ResponseValue)
    → Some reply ≡ sites_refusal token has_folder is_reloading head → IsPlain reply
refused_plain token has_folder is_reloading head reply is =
    refused_if (not (is_post head)) reply (refusal status.PostOnly Text (codes "Method")) _ (refl, refl)
    (λ is. refused_if (not (is_authorized token head)) reply (refusal status.Unauthorized Text (codes "Unauthorized")) _ (refl, refl)
    (λ is. refused_if (not has_folder) reply (refusal status.NotFound Text (codes "NoSites")) _ (refl, refl)
    (λ is. refused_if (is_none (sites_query (query_in (origin_form head.target)))) reply (refusal status.BadRequest Text (codes "Query")) _ (refl, refl)
    (λ is. refused_if is_reloading reply (refusal status.Conflict Text (codes "Reloading")) None (refl, refl) (λ is. cc) is) is) is) is) is

pub sites_message : {E : Type 0} (r : Result ResponseTextValue E) (keeps alone : Bool) (reply : ResponseValue) (has : RequestHead → Type 0)
    → ((head : RequestHead) → has head → alone ≡ is_head head) → ((head : RequestHead) → has head → IsPlain reply)
    → IfOk r (λ response. IsLocation reply.location → AllPass is_uri_byte reply.tag → IsMessageFor keeps alone response)
    → IfOk r (λ response. (head : RequestHead) → has head → IsSitesMessage keeps head response)
sites_message (Ok response) keeps alone reply has is plain message =
    λ head held.
    let fits = stated reply (plain head held) in inl (subst (λ (b : Bool). IsMessageFor keeps b response) (is head held) (message fits.0 fits.1))
sites_message (Err e) keeps alone reply has is plain message = message

pub sites_says : (bytes : List ℕ) (keeps : Bool) (head : RequestHead) (response : ResponseTextValue) → BeginsWith bytes head → is_for_sites head ≡ true
    → IsSitesMessage keeps head response → SaysOfSites bytes keeps response
sites_says bytes keeps head response begins asks (inl message) = inl (message_says keeps (is_head head) response message)
sites_says bytes keeps head response begins asks (inr stream) = inr ((head, begins, asks, stream.1), stream_says response stream.0)
