-- The response of a responder in a turn.
use Rattle.std.proofs.Common.{◌≡◌, ◌≤◌, ◌⊎◌, ℕ, Bool, true, false, List, length, Some, None, Option, inl, inr, refl, sym, ap, ◌∙◌, subst, arith}
use Rattle.std.proofs.lemmas.Bool.{cases_Bool, false≢true, ltb-false}
use Rattle.std.specs.Prelude.{◌==◌, ◌&&◌, ◌||◌, not, nat_lt, is_some, if◌then◌else◌, codes, MatchBool, Result, Ok, Err}
use Rattle.std.specs.Str.{bytes_eq}
use Rattle.httparse.specs.Grammar.{RequestHead}
use Rattle.httparse.proofs.GrammarLemmas.{request_unique}
use Rattle.feed_http_heads.specs.Options.{lacks_close, SaysWhetherItKeeps}
use Rattle.node_connection.specs.Requests.{IsPersistent, is_post, persists, states_len}
use Rattle.feed_model.specs.History.{History}
use Rattle.feed_http_heads.specs.Fields.{values_named, has_any}
use Rattle.feed_http_heads.specs.Requests.{lacks_host}
use Rattle.feed_http_heads.specs.Targets.{origin_form}
use Rattle.node_request.specs.Routes.{path_in, route_of}
use Rattle.node_request.specs.FetchRequests.{FetchPolicyValue, name_to_fetch, name_at}
use Rattle.node_request.specs.FoundRequests.{BeginsWith}
use Rattle.node_request.specs.Forms.{form_limit, takes_form, is_form_post, has_form_type, stated_length, form_by, form_in, length_of_form, form_length}
use Rattle.node_request.specs.declared.route.Route.{Route}
use Rattle.node_request.specs.declared.route.Route.TheVariants.{Resolve, Package, Go, Sites}
use Rattle.node_request.specs.declared.form.FormFault.{FormFault}
use Rattle.node_request.specs.declared.form.FormFault.TheVariants.{Coding}
use Rattle.node_response.specs.Responses.{ResponseTextValue}
use Rattle.node_resolver.specs.NodeResponses.{AsksForFetch, AsksForNoFetch, IsNodeResponseAt, SaysOfConnection}
use Rattle.node_operator.specs.FeedResponses.{IsFeedResponse}
use Rattle.node_operator.specs.SitesResponses.{IsSitesResponse, is_sites_route, is_for_sites}
use Rattle.node_sites.specs.declared.node_sites.NodeSites.{NodeSites}
use Rattle.node_machine.specs.Rules.{Terms}
use Rattle.node_service.specs.Responders.{IsOperatorResponse, IsResponseBy, SaysOfTurn}
use Rattle.node_service.specs.Wanted.{IsAnswerable, IsUnanswerable, LacksOne}
use Rattle.node_service.specs.declared.responder.FeedResponder.{FeedResponder}

pub as_node : (responder : FeedResponder) (terms : Terms NodeSites) (bytes body : List ℕ) (keeps : Bool) (h : History) (response : ResponseTextValue)
    → IsOperatorResponse responder.has_folder terms.policy bytes keeps None → IsAnswerable responder.wanted.now h bytes
    → IsNodeResponseAt terms.sites terms.policy terms.today h bytes body keeps response → IsResponseBy responder terms h bytes body keeps response
as_node responder terms bytes body keeps h response other free is = inr (other, free, is)

-- a response about the folder is one to an operator, if there is none about the feed
pub as_operator : (has_folder : Bool) (policy : FetchPolicyValue) (bytes : List ℕ) (keeps : Bool) (found : Option ResponseTextValue)
    → IsFeedResponse policy bytes keeps None → IsSitesResponse has_folder policy bytes keeps found → IsOperatorResponse has_folder policy bytes keeps found
as_operator has_folder policy bytes keeps None other is = (other, is)
as_operator has_folder policy bytes keeps (Some response) other is = inr (other, is)

-- a request is answered by the second of two tests, or by neither
pub answered_by : (wanted : List (List ℕ)) (h : History) (bytes : List ℕ) (asks : Bool) → LacksOne h wanted
    → MatchBool asks (AsksForFetch bytes) (AsksForNoFetch bytes) → MatchBool asks (IsAnswerable wanted h bytes) (IsUnanswerable wanted h bytes)
answered_by wanted h bytes true lacks fetch = inr fetch
answered_by wanted h bytes false lacks none = (lacks, none)

-- a response with these parts
pub same_response : (r : ResponseTextValue) (bytes : List ℕ) (status size : ℕ) → bytes ≡ r.bytes → status ≡ r.status → size ≡ r.body_length
    → r ≡ record { bytes = bytes; status = status; body_length = size }
same_response r bytes status size b s l = rw (b, s, l) refl

-- ---- a request to fetch has no form

abbrev unnamed : Option (List ℕ)
unnamed = None

none_named : (post : Bool) → is_some (if post then unnamed else None) ≡ true → ⊥
none_named true named = false≢true named
none_named false named = false≢true named

-- what names a release to fetch has the route of a fetch, which takes no form
named_takes_none : (route : Route) (post : Bool) (path : List ℕ) → is_some (if post then name_at route path else None) ≡ true → takes_form route ≡ false
named_takes_none Resolve post path named = absurd (none_named post named)
named_takes_none Package post path named = absurd (none_named post named)
named_takes_none Go post path named = absurd (none_named post named)
named_takes_none route post path named = refl

no_form_post : (is_post has_host takes : Bool) (form : Result ℕ FormFault) → takes ≡ false
    → length_of_form (if is_post && (has_host && takes) then Some form else None) ≡ 0
no_form_post true true takes form none = rw none refl
no_form_post true false takes form none = refl
no_form_post false has_host takes form none = refl

fetch_has_no_form : (head : RequestHead) → is_some (name_to_fetch head) ≡ true → form_length head ≡ 0
fetch_has_no_form head named =
    let post = bytes_eq head.method (codes "POST") in
    no_form_post post (not (lacks_host head)) (takes_form (route_of head)) (form_in head)
    (named_takes_none (route_of head) post (path_in (origin_form head.target)) named)

-- ---- a form is short

form_is_short : (typed : Bool) (stated : Result ℕ FormFault) → length_of_form (Some (form_by typed stated)) ≤ 8192
form_is_short typed (Err fault) = omega arith
form_is_short typed (Ok n) = by typed (cases_Bool (nat_lt form_limit n))
  where
    by : (t : Bool) → (nat_lt form_limit n ≡ true) ⊎ (nat_lt form_limit n ≡ false) → length_of_form (Some (form_by t (Ok n))) ≤ 8192
    by t (inl long) = rw long (omega arith)
    by true (inr short) = rw short (omega (arith, ltb-false form_limit n short))
    by false (inr short) = rw short (omega arith)

pub form_within : (head : RequestHead) → form_length head ≤ 8192
form_within head = by (is_form_post head) (has_any (values_named (codes "transfer-encoding") head.fields))
  where
    by : (is_post has_coding : Bool)
        → length_of_form (if is_post then Some (if has_coding then Err Coding else form_by (has_form_type head) (stated_length head)) else None) ≤ 8192
    by false has_coding = omega arith
    by true true = omega arith
    by true false = form_is_short (has_form_type head) (stated_length head)

-- ---- the response says whether the connection persists

and_first : (a b : Bool) → (a && b) ≡ true → a ≡ true
and_first true b is = refl
and_first false b is = absurd (cc)

and_last : (a b : Bool) → (a && b) ≡ true → b ≡ true
and_last true b is = is
and_last false b is = absurd (cc)

no_post : (post : Bool) → (not post || nat_lt 0 0) ≡ true → post ≡ false
no_post true is = absurd (cc)
no_post false is = refl

-- the connection does not persist after a POST without a body
persists_not_post : (head : RequestHead) → persists head 0 ≡ true → is_post head ≡ false
persists_not_post head keeps =
    no_post (is_post head) (and_first (not (is_post head) || nat_lt 0 0) (lacks_close head.fields && states_len head 0)
    (and_last (head.minor == 1) ((not (is_post head) || nat_lt 0 0) && (lacks_close head.fields && states_len head 0)) keeps))

none_wanted : (b : Bool) (n : ℕ) → n ≡ 0 → (if b then n else 0) ≡ 0
none_wanted true n zero = zero
none_wanted false n zero = refl

-- only a POST asks the node to fetch
asks_by_post : (post : Bool) (name : Option (List ℕ)) → is_some (if post then name else None) ≡ true → post ≡ true
asks_by_post true name named = refl
asks_by_post false name named = absurd (false≢true named)

fetch_posts : (head : RequestHead) → is_some (name_to_fetch head) ≡ true → is_post head ≡ true
fetch_posts head named = asks_by_post (is_post head) (name_at (route_of head) (path_in (origin_form head.target))) named

-- what is for `/sites` takes no form
sites_takes_none : (route : Route) → is_sites_route route ≡ true → takes_form route ≡ false
sites_takes_none Sites is = refl
sites_takes_none Resolve is = absurd (cc)
sites_takes_none Package is = absurd (cc)
sites_takes_none Go is = absurd (cc)
sites_takes_none route is = refl

sites_has_no_form : (head : RequestHead) → is_for_sites head ≡ true → form_length head ≡ 0
sites_has_no_form head asks =
    no_form_post (bytes_eq head.method (codes "POST")) (not (lacks_host head)) (takes_form (route_of head)) (form_in head)
    (sites_takes_none (route_of head) (and_last (not (lacks_host head)) (is_sites_route (route_of head)) asks))

-- a connection does not persist after a POST that takes no form
no_form_ends : (bytes body : List ℕ) (head : RequestHead) → BeginsWith bytes head → IsPersistent form_length bytes body → form_length head ≡ 0 → is_post head ≡ true → ⊥
no_form_ends bytes body head begins is no_form post =
    let one = request_unique bytes is.head head is.begins.rest begins.rest is.begins.reads begins.reads in
    let none : length body ≡ 0 = is.size ∙ none_wanted (states_len is.head (form_length is.head)) (form_length is.head)
    (ap form_length one.0 ∙ no_form) in
    false≢true (sym (persists_not_post is.head (ap (λ n. persists is.head n) (sym none) ∙ is.keeps)) ∙ ap is_post one.0 ∙ post)

says_of_connection : (bytes body : List ℕ) (keeps : Bool) (response : ResponseTextValue) → (keeps ≡ true → IsPersistent form_length bytes body)
    → SaysOfConnection bytes keeps response → SaysWhetherItKeeps keeps response.bytes
says_of_connection bytes body keeps response allowed (inl says) = says
says_of_connection bytes body false response allowed (inr (asks, says)) = says
says_of_connection bytes body true response allowed (inr ((head, begins, fetch), says)) =
    absurd (no_form_ends bytes body head begins (allowed refl) (fetch_has_no_form head fetch.1) (fetch_posts head fetch.1))

pub says_in_turn : (bytes body : List ℕ) (keeps : Bool) (response : ResponseTextValue) → (keeps ≡ true → IsPersistent form_length bytes body)
    → SaysOfTurn bytes keeps response → SaysWhetherItKeeps keeps response.bytes
says_in_turn bytes body keeps response allowed (inr says) = says_of_connection bytes body keeps response allowed says
says_in_turn bytes body keeps response allowed (inl (inl says)) = says
says_in_turn bytes body false response allowed (inl (inr (asks, says))) = says
says_in_turn bytes body true response allowed (inl (inr ((head, begins, asks, post), says))) =
    absurd (no_form_ends bytes body head begins (allowed refl) (sites_has_no_form head asks) post)
