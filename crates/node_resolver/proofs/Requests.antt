-- The responses to requests of certain forms.
use Rattle.std.proofs.Common.{◌≡◌, ◌<◌, ◌^◌, ◌⊎◌, ℕ, List, [], ◌∷◌, Bool, true, false, Option, Some, None, Result, Ok, Err}
use Rattle.std.proofs.Common.{refl, sym, ap, ◌∙◌, inl, inr, subst, length, codes, lit<}
use Rattle.std.specs.Prelude.{if◌then◌else◌, ◌||◌, ◌&&◌, ◌==◌, filter, is_none, not, position}
use Rattle.std.specs.Option.{option_map_or, is_some}
use Rattle.std.specs.Str.{bytes_eq}
use Rattle.std.specs.Cmp.Lexicographic.{bytes_decides}
use Rattle.std.proofs.lemmas.Bool.{cases_Bool}
use Rattle.std.proofs.lemmas.List.Elements.{All-nil}
use Rattle.httparse.specs.Grammar.{RequestHead, ResponseHead, is_uri_byte}
use Rattle.feed_http_heads.specs.Fields.{values_named, only, has_any}
use Rattle.feed_http_heads.specs.Requests.{lacks_host, is_get, is_head}
use Rattle.feed_http_heads.specs.Targets.{origin_form}
use Rattle.node_hits.specs.Searches.{SearchValue}
use Rattle.feed_openurl.specs.declared.fault.OpenUrlFault.{OpenUrlFault}
use Rattle.node_request.specs.FoundRequests.{BeginsWith}
use Rattle.node_request.specs.FetchRequests.{name_at, name_to_fetch}
use Rattle.node_response.specs.FetchResponses.{IsFetchMessage}
use Rattle.node_request.specs.Representations.{accepted_representation, representation_of, preferred_in, format_of, has_hits}
use Rattle.node_request.specs.Forms.{form_of, form_in, form_by, is_form_post, takes_form, has_form_type, stated_length}
use Rattle.node_request.specs.declared.form.FormFault.{FormFault}
use Rattle.node_request.specs.declared.form.FormFault.TheVariants as fault
use Rattle.node_request.specs.declared.representation.Representation.{Representation}
use Rattle.node_request.specs.Routes.{path_in, query_in, route_at, route_of, package_in, is_unsupported_method}
use Rattle.node_resolver.specs.Status.{status_body}
use Rattle.node_pages.specs.HomePage.{home_page}
use Rattle.node_request.specs.declared.representation.Representation.TheVariants.{Text, Json, Html, Fragment, Sfx}
use Rattle.node_pages.specs.TitlesPage.{titles_response}
use Rattle.node_request.specs.declared.route.Route.{Route}
use Rattle.node_request.specs.declared.route.Route.TheVariants as route
use Rattle.node_response.specs.Responses.{ResponseValue, ResponseTextValue, response_with, refusal, redirect_to, of_site, response_of, response_body, status_code}
use Rattle.node_response.specs.Messages.{IsMessage, IsMessageFor, BeginsStream, IsSentAs}
use Rattle.node_response.specs.declared.status.Status.TheVariants as status
use Rattle.node_response.proofs.HeadsRead.{head_of, sent_as}
use Rattle.node_hits.specs.Hits.{best_link, is_open}
use Rattle.node_hits.specs.Lookups.{asked_of}
use Rattle.node_hits.specs.Laws.{IsSoleHit}
use Rattle.node_site.specs.Hosts.{is_link}
use Rattle.node_hits.specs.Tallies.{outcome_of, sole_link}
use Rattle.node_site.specs.declared.text_table.Text.TheVariants as advice
use Rattle.node_pages.specs.ErrorPages.{error_response}
use Rattle.node_hits.proofs.BestLinks as links
use Rattle.node_response.specs.Tags.{SiteValue}
use Rattle.node_resolver.specs.Answers.{Dated, Sited, found_among, hits_among, sited, is_of, tally_among}
use Rattle.node_resolver.specs.Responses.{found_response, library_target, sole_redirect, status_without, target_of}
use Rattle.node_resolver.specs.Responses.{route_response, resolve_response, package_response, redirect_response, go_response, hits_response, query_response, target_response, target_query, path_of}
use Rattle.node_resolver.specs.Responses.{method_refusal, has_coded_body, resolve_response_at, response_by_form, untagged_response, site_response, tagged_response, response_to, IsResponse}
use Rattle.node_resolver.specs.Answered.{IsGoodIn, IsAnswered, IsAnsweredTo}
use Rattle.node_resolver.specs.Validators.{is_tagged, has_validator}
use Rattle.node_resolver.specs.Messages.{as_get, HeadIsHeadOfGet, AsksToGo, GoesTo, GoesToBest, FormIsGet, IsFollowed, RedirectsSoleHit}
use Rattle.node_resolver.proofs.Locations.{link_location, response_located, sole_hit, target_is_link}
use Rattle.node_resolver.proofs.Tagged.{final_by, tag_asked, tagged_cases, no_preflight, tagged_statable, tagged_young}
use Rattle.node_resolver.proofs.SameBytes.{one_response}

-- the response to a request with this head
response_at : (site : SiteValue) (keeps : Bool) (bytes body : List ℕ) (actives : Dated) (head : RequestHead) (response : ResponseTextValue) → BeginsWith bytes head
    → IsResponse site bytes body keeps actives response → response ≡ response_to site keeps head body actives
response_at site keeps bytes body actives head response begins is = one_response site keeps bytes body actives response (response_to site keeps head body actives) is (inl (head, begins, refl))

-- ---- the first case that holds

abbrev pub response_by : Bool → Bool → Bool → Bool → ResponseValue → ResponseValue
response_by lacks unsupported unknown coded reply =
    if lacks then refusal status.BadRequest Text (codes "NoHost")
    else (if unsupported then refusal status.MethodNotAllowed Text (codes "Method")
    else (if unknown then refusal status.NotImplemented Text (codes "Method")
    else (if coded then refusal status.NotImplemented Text (codes "Coding")
    else reply)))

-- the response to a query in the target
abbrev pub query_answer : RequestHead → Sited → ResponseValue
query_answer head actives = target_response head (target_query head) actives

or_right : (a b : Bool) → a ≡ false → (a || b) ≡ true → b ≡ true
or_right true b e either = absurd (cc)
or_right false b e either = either

-- GET and HEAD are supported
supported : (head : RequestHead) → (is_get head || is_head head) ≡ true → is_unsupported_method head.method ≡ false
supported head read = elim (cases_Bool (is_get head)) [
  | inl e ↦ ap is_unsupported_method ((bytes_decides head.method (codes "GET")).0 e)
  | inr e ↦ ap is_unsupported_method ((bytes_decides head.method (codes "HEAD")).0 (or_right (is_get head) (is_head head) e read))
]

or_true : (a b : Bool) → b ≡ true → (a || b) ≡ true
or_true true b e = refl
or_true false b e = e

-- neither is a POST
not_post : (head : RequestHead) → (is_get head || is_head head) ≡ true → bytes_eq head.method (codes "POST") ≡ false
not_post head read = elim (cases_Bool (is_get head)) [
  | inl e ↦ ap (λ m. bytes_eq m (codes "POST")) ((bytes_decides head.method (codes "GET")).0 e)
  | inr e ↦ ap (λ m. bytes_eq m (codes "POST")) ((bytes_decides head.method (codes "HEAD")).0 (or_right (is_get head) (is_head head) e read))
]

formless : (head : RequestHead) → (is_get head || is_head head) ≡ true → form_of head ≡ None
formless head read = ap (λ b. if b && (not (lacks_host head) && takes_form (route_of head)) then Some (form_in head) else None) (not_post head read)

-- the response to a GET or a HEAD without a body
pub read_reply : (head : RequestHead) (body : List ℕ) (actives : Sited) → (is_get head || is_head head) ≡ true
    → untagged_response head body actives ≡ response_by (lacks_host head) false false (has_coded_body head) (query_answer head actives)
read_reply head body actives read =
    ap (λ o. if lacks_host head then refusal status.BadRequest Text (codes "NoHost") else response_by_form head body actives o) (formless head read)
    ∙ ap (λ u. if lacks_host head then refusal status.BadRequest Text (codes "NoHost")
    else (if u then method_refusal (route_of head)
    else response_by false false (not (is_get head || is_head head)) (has_coded_body head) (query_answer head actives))) (supported head read)
    ∙ ap (λ r. response_by (lacks_host head) false (not r) (has_coded_body head) (query_answer head actives)) read

-- ---- a target with a tag

-- the response to such a request is that to its target
pub answered_to : (head : RequestHead) (actives : Sited) → lacks_host head ≡ false → has_coded_body head ≡ false → is_tagged head ≡ true
    → IsAnswered (route_of head) (path_of head) (target_query head) actives → IsAnsweredTo head actives
answered_to head actives host plain tagged answered body =
    subst (IsGoodIn (representation_of (route_of head) (query_in (origin_form head.target)) head))
    (sym (read_reply head body actives (and_left (is_get head || is_head head) (has_validator (route_of head)) tagged)
    ∙ ap (λ l. response_by l false false (has_coded_body head) (query_answer head actives)) host
    ∙ ap (λ c. response_by false false false c (query_answer head actives)) plain))
    (answered head)
  where
    and_left : (a b : Bool) → (a && b) ≡ true → a ≡ true
    and_left true b e = refl
    and_left false b e = absurd (cc)

-- the response to each request of a target whose query is valid
pub status_answered : (r : Route) (path query : List ℕ) (actives : Sited) → r ≡ route.Status → IsAnswered r path query actives
status_answered r path query actives is head =
    subst (λ o. IsGoodIn (representation_of o query head) (route_response o head path query actives)) (sym is) (refl, refl)

-- a library that redirects no browser
shown : (representation : Representation) (text : List ℕ) (actives : Sited) (query : SearchValue) → actives.library.redirects_sole_hit ≡ false
    → IsGoodIn representation (found_response representation text actives query)
shown Text text actives query off = (refl, refl)
shown Json text actives query off = (refl, refl)
shown Fragment text actives query off = (refl, refl)
shown Sfx text actives query off = (refl, refl)
shown Html text actives query off =
    let none : sole_redirect Html actives query ≡ None = ap (λ b. if b then sole_link (tally_among query actives) else None) off in
    subst (λ (o : Option (List ℕ)). IsGoodIn Html (option_map_or redirect_to o (hits_response status.Good Html text actives query))) (sym none) (refl, refl)

query_answered : (representation : Representation) (text : List ℕ) (actives : Sited) (o : Result SearchValue OpenUrlFault) (query : SearchValue)
    → actives.library.redirects_sole_hit ≡ false → o ≡ Ok query
    → IsGoodIn representation (query_response actives status.Good representation text (found_response representation text actives) o)
query_answered representation text actives (Ok other) query off is = shown representation text actives other off
query_answered representation text actives (Err why) query off is = absurd (cc)

pub resolve_answered : (r : Route) (path query : List ℕ) (actives : Sited) (search : SearchValue) → r ≡ route.Resolve
    → actives.library.redirects_sole_hit ≡ false → asked_of query ≡ Ok search → IsAnswered r path query actives
resolve_answered r path query actives search is off valid head =
    subst (λ o. IsGoodIn (representation_of o query head) (route_response o head path query actives)) (sym is)
    (query_answered (representation_of route.Resolve query head) query actives (asked_of query) search off valid)

placed_answered : (representation : Representation) (text : List ℕ) (actives : Sited) (query : SearchValue) (o : Option ℕ) (other : ResponseValue) → is_some o ≡ true
    → actives.library.redirects_sole_hit ≡ false → asked_of text ≡ Ok query → IsGoodIn representation (option_map_or (resolve_response_at representation text actives) o other)
placed_answered representation text actives query (Some place) other some off valid = query_answered representation text _ (asked_of text) query off valid
placed_answered representation text actives query None other some off valid = absurd (cc)

pub package_answered : (r : Route) (path query : List ℕ) (actives : Sited) (search : SearchValue) → r ≡ route.Package
    → is_some (position (is_of (package_in path)) actives.actives) ≡ true → actives.library.redirects_sole_hit ≡ false → asked_of query ≡ Ok search
    → IsAnswered r path query actives
package_answered r path query actives search is some off valid head =
    subst (λ o. IsGoodIn (representation_of o query head) (route_response o head path query actives)) (sym is)
    (placed_answered (representation_of route.Package query head) query actives search (position (is_of (package_in path)) actives.actives) _ some off valid)

-- ---- HEAD

-- a response depends on the fields only by the representation that they prefer
pub same_parts : (r : Route) (head other : RequestHead) (path query : List ℕ) (actives : Sited)
    → representation_of r query head ≡ representation_of r query other → accepted_representation head ≡ accepted_representation other
    → route_response r head path query actives ≡ route_response r other path query actives
same_parts route.Home head other path query actives wants accepts = refl
same_parts route.Status head other path query actives wants accepts = rw wants refl
same_parts route.Resolve head other path query actives wants accepts = rw wants refl
same_parts route.Package head other path query actives wants accepts = rw wants refl
same_parts route.Go head other path query actives wants accepts = rw accepts refl
same_parts route.Titles head other path query actives wants accepts = rw wants refl
same_parts other_route head other path query actives wants accepts = rw accepts refl

same_route : (r : Route) (head : RequestHead) (path query : List ℕ) (actives : Sited) → route_response r (as_get head) path query actives ≡ route_response r head path query actives
same_route r head path query actives = same_parts r (as_get head) head path query actives refl refl

same_reply : (head : RequestHead) (body other : List ℕ) (actives : Sited) → is_head head ≡ true → untagged_response (as_get head) other actives ≡ untagged_response head body actives
same_reply head body other actives is =
    read_reply (as_get head) other actives refl
    ∙ ap (λ t. response_by (lacks_host head) false false (has_coded_body head) t) (same_route (route_of head) head (path_of head) (target_query head) actives)
    ∙ sym (read_reply head body actives (or_true (is_get head) (is_head head) is))

-- neither a GET nor a HEAD is a preflight
not_options : (head : RequestHead) → (is_get head || is_head head) ≡ true → bytes_eq head.method (codes "OPTIONS") ≡ false
not_options head read = elim (cases_Bool (is_get head)) [
  | inl e ↦ ap (λ m. bytes_eq m (codes "OPTIONS")) ((bytes_decides head.method (codes "GET")).0 e)
  | inr e ↦ ap (λ m. bytes_eq m (codes "OPTIONS")) ((bytes_decides head.method (codes "HEAD")).0 (or_right (is_get head) (is_head head) e read))
]

-- the response to a GET or a HEAD, with its tag
pub read_tagged : (site : SiteValue) (head : RequestHead) (body : List ℕ) (actives : Dated) → (is_get head || is_head head) ≡ true
    → tagged_response site head body actives ≡ final_by (has_validator (route_of head)) None head (tag_asked site actives head) site.max_age (untagged_response head body (sited site actives))
read_tagged site head body actives read =
    tagged_cases site head body actives
    ∙ ap (λ p. final_by (is_tagged head) p head (tag_asked site actives head) site.max_age (untagged_response head body (sited site actives))) (no_preflight head (not_options head read))
    ∙ ap (λ r. final_by (r && has_validator (route_of head)) None head (tag_asked site actives head) site.max_age (untagged_response head body (sited site actives))) read

same_tagged : (site : SiteValue) (head : RequestHead) (body other : List ℕ) (actives : Dated) → is_head head ≡ true
    → tagged_response site (as_get head) other actives ≡ tagged_response site head body actives
same_tagged site head body other actives is =
    read_tagged site (as_get head) other actives refl
    ∙ ap (λ (r : ResponseValue). final_by (has_validator (route_of head)) None head (tag_asked site actives head) site.max_age r) (same_reply head body other (sited site actives) is)
    ∙ sym (read_tagged site head body actives (or_true (is_get head) (is_head head) is))

pub head_alone : HeadIsHeadOfGet
head_alone site keeps actives bytes asked body form head response reply is begins also one other small young =
    let r : ResponseValue = site_response site head body actives in
    let short : response ≡ response_of keeps true r = response_at site keeps bytes body actives head response begins one ∙ ap (λ b. response_of keeps b r) is in
    let long : reply ≡ response_of keeps false r =
    response_at site keeps asked form actives (as_get head) reply also other
    ∙ ap (λ (t : ResponseValue). response_of keeps false (of_site site.library.redirects_sole_hit t)) (same_tagged site head body form actives is) in
    let sized : length (response_body false r) < 2 ^ 64 = subst (λ (v : ResponseTextValue). v.body_length < 2 ^ 64) long small in
    let fits = tagged_statable site head body actives in
    let sent : IsSentAs keeps r (head_of keeps r) =
    sent_as keeps r (record { location = fits.0; size = sized; tag = fits.1; age = tagged_young site head body actives young }) in (
      head_of keeps r,
      response_body false r,
      subst (λ (v : ResponseTextValue). IsMessage v (head_of keeps r) (response_body false r)) (sym long) sent.whole,
      subst (λ (v : ResponseTextValue). IsMessage v (head_of keeps r) []) (sym short) sent.alone,
    )

-- ---- /go

go_replied : (head : RequestHead) (body : List ℕ) (query : SearchValue) (actives : Sited) → AsksToGo head query
    → untagged_response head body actives ≡ redirect_response (accepted_representation head) (target_query head) actives query
go_replied head body query actives asks =
    read_reply head body actives asks.method
    ∙ ap (λ l. response_by l false false (has_coded_body head) (query_answer head actives)) asks.host
    ∙ ap (λ c. response_by false false false c (query_answer head actives)) asks.body
    ∙ ap (λ r. route_response r head (path_of head) (target_query head) actives) asks.route
    ∙ ap (λ q. query_response actives status.NotFound (accepted_representation head) (target_query head) (redirect_response (accepted_representation head) (target_query head) actives) q) asks.asked

-- `/go` has no tag
untagged_go : (site : SiteValue) (head : RequestHead) (body : List ℕ) (actives : Dated) → route_of head ≡ route.Go
    → final_by (has_validator (route_of head)) None head (tag_asked site actives head) site.max_age (untagged_response head body (sited site actives))
    ≡ untagged_response head body (sited site actives)
untagged_go site head body actives is = ap (λ r. final_by (has_validator r) None head (tag_asked site actives head) site.max_age (untagged_response head body (sited site actives))) is

redirect_sent : (keeps : Bool) (url : List ℕ) → is_link url ≡ true → IsSentAs keeps (redirect_to url) (head_of keeps (redirect_to url))
redirect_sent keeps url link = sent_as keeps (redirect_to url) (record { location = link_location url link; size = lit< tt; tag = All-nil (λ b. is_uri_byte b ≡ true); age = lit< tt })

redirected : (keeps alone : Bool) (url : List ℕ) → is_link url ≡ true
    → (head : ResponseHead) × IsMessage (response_of keeps alone (redirect_to url)) head [] × (values_named (codes "location") head.fields ≡ url ∷ [])
redirected keeps true url link = let sent = redirect_sent keeps url link in (head_of keeps (redirect_to url), sent.alone, sent.states.location)
redirected keeps false url link = let sent = redirect_sent keeps url link in (head_of keeps (redirect_to url), sent.whole, sent.states.location)

goes : (keeps alone whole : Bool) (o : Option (List ℕ)) (other : ResponseValue) → ((url : List ℕ) → o ≡ Some url → is_link url ≡ true)
    → other.status ≡ status_without whole → GoesTo o whole (response_of keeps alone (option_map_or redirect_to o other))
goes keeps alone true None other safe is = ap status_code is
goes keeps alone false None other safe is = ap status_code is
goes keeps alone whole (Some url) other safe is = (refl, redirected keeps alone url (safe url refl))

-- a site sends a redirect as it is
sited_redirect : (redirects : Bool) (o : Option (List ℕ)) (other : ResponseValue)
    → of_site redirects (option_map_or redirect_to o other) ≡ option_map_or redirect_to o (of_site redirects other)
sited_redirect redirects None other = refl
sited_redirect redirects (Some url) other = refl

pub goes_to_best : GoesToBest
goes_to_best site keeps actives bytes body head query response begins asks is =
    let hits = hits_among query (sited site actives) in
    let whole : Bool = (tally_among query (sited site actives)).is_whole in
    let other : ResponseValue = hits_response (status_without whole) (accepted_representation head) (target_query head) (sited site actives) query in
    let target : Option (List ℕ) = target_of query (sited site actives) in
    let redirects : Bool = site.library.redirects_sole_hit in
    let same : response ≡ response_of keeps (is_head head) (option_map_or redirect_to target (of_site redirects other)) =
    response_at site keeps bytes body actives head response begins is
    ∙ ap (λ (t : ResponseValue). response_of keeps (is_head head) (of_site redirects t)) (read_tagged site head body actives asks.method ∙ untagged_go site head body actives asks.route
    ∙ go_replied head body query (sited site actives) asks)
    ∙ ap (response_of keeps (is_head head)) (sited_redirect redirects target other) in
    let followed : IsFollowed hits (library_target site.library (outcome_of (tally_among query (sited site actives))) query) target = record {
      of_open = best_link (filter is_open hits);
      of_all = best_link hits;
      is_best_open = links.best_is (filter is_open hits);
      is_best = links.best_is hits;
      follows = refl;
    } in (
      target,
      followed,
      subst (λ (v : ResponseTextValue). GoesTo target whole v) (sym same)
          (goes keeps (is_head head) whole target (of_site redirects other) (target_is_link query (sited site actives)) refl),
    )

-- ---- a sole hit

redirect_of : (o : Option (List ℕ)) (other : ResponseValue) → other.status ≡ status.Good → (option_map_or redirect_to o other).status ≡ status.Found
    → o ≡ Some (option_map_or redirect_to o other).location
redirect_of None other good found = absurd (cc)
redirect_of (Some url) other good found = refl

sole_redirected : (representation : Representation) (text : List ℕ) (actives : Sited) (o : Result SearchValue OpenUrlFault) (query : SearchValue) → o ≡ Ok query
    → (query_response actives status.Good representation text (found_response representation text actives) o).status ≡ status.Found
    → (representation ≡ Html) × (actives.library.redirects_sole_hit ≡ true)
    × IsSoleHit (found_among query actives) (query_response actives status.Good representation text (found_response representation text actives) o).location
sole_redirected representation text actives o query is found =
    let at : query_response actives status.Good representation text (found_response representation text actives) o ≡ found_response representation text actives query =
    ap (query_response actives status.Good representation text (found_response representation text actives)) is in
    let link = sole_redirect representation actives query in
    let other : ResponseValue = hits_response status.Good representation text actives query in
    let own = sole_hit representation actives query (option_map_or redirect_to link other).location
    (redirect_of link other refl (subst (λ (r : ResponseValue). r.status ≡ status.Found) at found)) in
    (own.0, own.1, subst (λ (r : ResponseValue). IsSoleHit (found_among query actives) r.location) (sym at) own.2)

pub redirects_sole_hit : RedirectsSoleHit
redirects_sole_hit representation text query actives asked found = sole_redirected representation text actives (asked_of text) query asked found

-- ---- forms

both : (a b : Bool) → (a && b) ≡ true → (a ≡ true) × (b ≡ true)
both true b e = (refl, e)
both false b e = absurd (cc)

chosen_form : (b : Bool) (form : Result ℕ FormFault) (n : ℕ) → (if b then Some form else None) ≡ Some (Ok n) → (b ≡ true) × (form ≡ Ok n)
chosen_form true form n e = (refl, cc)
chosen_form false form n e = absurd (cc)

not_coded : (b : Bool) (form : Result ℕ FormFault) (n : ℕ) → (if b then Err fault.Coding else form) ≡ Ok n → b ≡ false
not_coded true form n e = absurd (cc)
not_coded false form n e = refl

not_true : (b : Bool) → not b ≡ true → b ≡ false
not_true true e = absurd (cc)
not_true false e = refl

-- a form that is read is in a POST with a host, and has no transfer coding
record IsReadForm (post : RequestHead) : Type 0 where
  method : bytes_eq post.method (codes "POST") ≡ true
  host : lacks_host post ≡ false
  plain : has_coded_body post ≡ false

read_form : (post : RequestHead) (n : ℕ) → form_of post ≡ Some (Ok n) → IsReadForm post
read_form post n is =
    let parts = chosen_form (is_form_post post) (form_in post) n is in
    let posted = both (bytes_eq post.method (codes "POST")) (not (lacks_host post) && takes_form (route_of post)) parts.0 in
    let hosted = both (not (lacks_host post)) (takes_form (route_of post)) posted.1 in
    record {
      method = posted.0;
      host = not_true (lacks_host post) hosted.0;
      plain = not_coded (has_coded_body post) (form_by (has_form_type post) (stated_length post)) n parts.1;
    }

-- the answer by the representations that a request names and accepts
abbrev answer_by : Route → Representation → Representation → List ℕ → List ℕ → Sited → ResponseValue
answer_by route.Home named accepted path query actives = response_with status.Good Html (home_page actives.library actives.actives)
answer_by route.Status named accepted path query actives = response_with status.Good named (status_body actives.library named actives.actives)
answer_by route.Resolve named accepted path query actives = resolve_response named query actives
answer_by route.Package named accepted path query actives = package_response named (package_in path) query actives
answer_by route.Go named accepted path query actives = go_response accepted query actives
answer_by route.Titles named accepted path query actives = titles_response actives.library named query actives.actives
answer_by other_route named accepted path query actives = error_response actives.library query status.NotFound accepted advice.NoPage (codes "NoTarget")

answered_by : (r : Route) (head : RequestHead) (path query : List ℕ) (actives : Sited)
    → route_response r head path query actives ≡ answer_by r (representation_of r query head) (accepted_representation head) path query actives
answered_by route.Home head path query actives = refl
answered_by route.Status head path query actives = refl
answered_by route.Resolve head path query actives = refl
answered_by route.Package head path query actives = refl
answered_by route.Go head path query actives = refl
answered_by route.Titles head path query actives = refl
answered_by other_route head path query actives = refl

-- a response depends on no more of a head than its fields
same_fields : (r : Route) (get post : RequestHead) (path query : List ℕ) (actives : Sited) → get.fields ≡ post.fields
    → route_response r get path query actives ≡ route_response r post path query actives
same_fields r get post path query actives fields =
    let accepts : accepted_representation get ≡ accepted_representation post = ap (λ fs. option_map_or preferred_in (only (values_named (codes "accept") fs)) Text) fields in
    let names : representation_of r query get ≡ representation_of r query post = ap (λ a. option_map_or (λ named. named) (format_of (has_hits r) query) a) accepts in
    answered_by r get path query actives
    ∙ ap (λ a. answer_by r a (accepted_representation get) path query actives) names
    ∙ ap (λ a. answer_by r (representation_of r query post) a path query actives) accepts
    ∙ sym (answered_by r post path query actives)

-- a POST has no tag, and is not a preflight
untagged_post : (site : SiteValue) (head : RequestHead) (body : List ℕ) (actives : Dated) → is_get head ≡ false → is_head head ≡ false
    → bytes_eq head.method (codes "OPTIONS") ≡ false → tagged_response site head body actives ≡ untagged_response head body (sited site actives)
untagged_post site head body actives get alone other =
    tagged_cases site head body actives
    ∙ ap (λ p. final_by (is_tagged head) p head (tag_asked site actives head) site.max_age (untagged_response head body (sited site actives))) (no_preflight head other)
    ∙ ap (λ g. final_by ((g || is_head head) && has_validator (route_of head)) None head (tag_asked site actives head) site.max_age (untagged_response head body (sited site actives))) get
    ∙ ap (λ a. final_by (a && has_validator (route_of head)) None head (tag_asked site actives head) site.max_age (untagged_response head body (sited site actives))) alone

pub form_is_get : FormIsGet
form_is_get site keeps actives bytes body other post get n response form same begins is =
    let read = read_form post n form in
    let method : (is_get get || is_head get) ≡ true = ap (λ m. bytes_eq m (codes "GET") || bytes_eq m (codes "HEAD")) same.method in
    let hosted : lacks_host get ≡ false =
    ap (λ m. (m == 1) && is_none (only (values_named (codes "host") get.fields))) same.minor
    ∙ ap (λ fs. (post.minor == 1) && is_none (only (values_named (codes "host") fs))) same.fields ∙ read.host in
    let plain : has_coded_body get ≡ false = ap (λ fs. has_any (values_named (codes "transfer-encoding") fs)) same.fields ∙ read.plain in
    let posted : untagged_response post body (sited site actives) ≡ target_response post body (sited site actives) =
    ap (λ b. if b then refusal status.BadRequest Text (codes "NoHost") else response_by_form post body (sited site actives) (form_of post)) read.host
    ∙ ap (λ o. response_by_form post body (sited site actives) o) form in
    let got : untagged_response get other (sited site actives) ≡ target_response get (target_query get) (sited site actives) =
    read_reply get other (sited site actives) method
    ∙ ap (λ l. response_by l false false (has_coded_body get) (query_answer get (sited site actives))) hosted
    ∙ ap (λ c. response_by false false false c (query_answer get (sited site actives))) plain in
    let alike : target_response get (target_query get) (sited site actives) ≡ target_response post body (sited site actives) =
    ap (λ q. target_response get q (sited site actives)) same.query
    ∙ ap (λ p. route_response (route_at p) get p body (sited site actives)) same.path
    ∙ same_fields (route_of post) get post (path_of post) body (sited site actives) same.fields in
    let short : is_head post ≡ false = ap (λ m. bytes_eq m (codes "HEAD")) ((bytes_decides post.method (codes "POST")).0 read.method) in
    let unread : is_get post ≡ false = ap (λ m. bytes_eq m (codes "GET")) ((bytes_decides post.method (codes "POST")).0 read.method) in
    let asks : bytes_eq post.method (codes "OPTIONS") ≡ false = ap (λ m. bytes_eq m (codes "OPTIONS")) ((bytes_decides post.method (codes "POST")).0 read.method) in
    let plainly : tagged_response site post body actives ≡ untagged_response post body (sited site actives) = untagged_post site post body actives unread short asks in (
      response_at site keeps bytes body actives post response begins is
          ∙ ap (λ b. response_of keeps b (site_response site post body actives)) short
          ∙ ap (λ (t : ResponseValue). response_of keeps false (of_site site.library.redirects_sole_hit t)) (plainly ∙ posted ∙ sym (got ∙ alike)),
      (response_located get other (sited site actives)).1,
    )

-- ---- nodes

only_then : (b : Bool) (o : Option (List ℕ)) (text : List ℕ) → (if b then o else None) ≡ Some text → b ≡ true
only_then true o text e = refl
only_then false o text e = absurd (cc)

-- a POST is not a HEAD
post_not_head : (head : RequestHead) (text : List ℕ) → name_to_fetch head ≡ Some text → is_head head ≡ false
post_not_head head text named =
    let post : bytes_eq head.method (codes "POST") ≡ true = only_then (bytes_eq head.method (codes "POST")) (name_at (route_of head) (path_in (origin_form head.target))) text named in
    ap (λ m. bytes_eq m (codes "HEAD")) ((bytes_decides head.method (codes "POST")).0 post)

-- the response to such a request
pub fetch_message : (keeps : Bool) (head : RequestHead) (text : List ℕ) (response : ResponseTextValue) → name_to_fetch head ≡ Some text → IsFetchMessage keeps response
    → IsMessageFor keeps (is_head head) response ⊎ BeginsStream response
fetch_message keeps head text response named (inl message) = inl (subst (λ (b : Bool). IsMessageFor keeps b response) (sym (post_not_head head text named)) message)
fetch_message keeps head text response named (inr begins) = inr begins
