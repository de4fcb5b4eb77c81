-- The location of a response can be stated in its head.
use Rattle.std.proofs.Common.{◌≡◌, ◌∙◌, ℕ, zero, List, [], ◌∷◌, Bool, true, false, Option, Some, None, Result, Ok, Err, ap, sym, refl, arith}
use Rattle.std.specs.Prelude.{if◌then◌else◌, is_some, ◌&&◌, ◌||◌, filter, not, position, codes, nat_le, length}
use Rattle.std.specs.List.{list_all}
use Rattle.std.specs.Option.{option_map_or, option_or}
use Rattle.std.proofs.lemmas.Bool.Decides.{nat_tests}
use Rattle.std.proofs.lemmas.List.Elements.{All-nil, All-weaker}
use Rattle.std.proofs.lemmas.List.Sums.{AllPass-from_list_all}
use Rattle.httparse.specs.Grammar.{RequestHead, is_uri_byte}
use Rattle.feed_http_heads.specs.Requests.{lacks_host, is_get, is_head}
use Rattle.node_hits.specs.Searches.{SearchValue}
use Rattle.node_links.specs.Articles.{with_title_id}
use Rattle.feed_openurl.specs.declared.fault.OpenUrlFault.{OpenUrlFault}
use Rattle.node_request.specs.Representations.{accepted_representation, representation_of}
use Rattle.node_request.specs.Routes.{package_in, route_of, is_unsupported_method}
use Rattle.node_request.specs.Forms.{form_of}
use Rattle.node_request.specs.declared.form.FormFault.{FormFault}
use Rattle.node_request.specs.declared.form.FormFault.TheVariants as fault
use Rattle.node_request.specs.declared.representation.Representation.{Representation}
use Rattle.node_request.specs.declared.representation.Representation.TheVariants.{Text, Json, Html, Fragment, Sfx}
use Rattle.node_request.specs.declared.route.Route.{Route}
use Rattle.node_request.specs.declared.route.Route.TheVariants as route
use Rattle.node_response.specs.Responses.{ResponseValue, refusal, redirect_to, response_with}
use Rattle.node_response.specs.Messages.{IsLocation}
use Rattle.node_response.specs.declared.status.Status.{Status}
use Rattle.node_response.specs.declared.status.Status.TheVariants as status
use Rattle.node_hits.specs.Lookups.{asked_of}
use Rattle.node_hits.specs.QueryFacts.{QueryFactsValue, ask_of, names_work}
use Rattle.node_links.proofs.LinksMade.{requests_are_links}
use Rattle.node_links.specs.LibraryLinks.{LibraryLinkValue, library_links}
use Rattle.node_links.specs.RequestLaws.{is_safe}
use Rattle.node_site.specs.Site as site_file
use Rattle.node_site.specs.declared.occasion.LinkUse.TheVariants.{Followed}
use Rattle.node_hits.proofs.SoleHits.{sole_is}
use Rattle.node_hits.specs.Laws.{IsSoleHit}
use Rattle.node_site.specs.declared.text_table.Text.TheVariants as advice
use Rattle.node_pages.specs.ErrorPages.{error_response}
use Rattle.node_pages.specs.HomePage.{form_page}
use Rattle.node_pages.specs.QueryRefusals.{asks_for_form, is_numberless, numberless_body, numberless_status, reason_text, unasked_response}
use Rattle.node_pages.specs.TitlesPage.{titles_by}
use Rattle.node_titles.specs.TitleSearches as title_searches
use Rattle.node_titles.specs.declared.title_search.TitleFault.{TitleFault}
use Rattle.node_titles.specs.declared.title_search.TitleFault.TheVariants.{BadStart, NoText, TooLong}
use Rattle.feed_releases.specs.Actives.{ActiveValue}
use Rattle.node_site.specs.Hosts.{host_of, is_link}
use Rattle.node_site.specs.Urls.{url_limit, is_visible}
use Rattle.node_hits.specs.Hits.{is_open}
use Rattle.node_hits.specs.Tallies.{outcome_of, sole_link}
use Rattle.node_hits.proofs.Redirects.{best_is}
use Rattle.node_resolver.specs.Answers.{Sited, found_among, hits_among, is_of, tally_among}
use Rattle.node_resolver.specs.Responses.{first_address, found_response, library_target, sole_redirect, status_without, target_of}
use Rattle.node_resolver.specs.Responses.{query_response, hits_response, resolve_response, resolve_response_at, redirect_response, go_response, route_response, path_of, target_query, target_response}
use Rattle.node_resolver.specs.Responses.{has_coded_body}
use Rattle.node_resolver.specs.Responses.{method_refusal, plain_response, form_refusal, response_by_form, untagged_response}

pub nowhere : IsLocation []
nowhere = All-nil (λ b. is_uri_byte b ≡ true)

second : (a b : Bool) → (a && b) ≡ true → b ≡ true
second true b e = e
second false b e = absurd (cc)

first : (a b : Bool) → (a && b) ≡ true → a ≡ true
first true b e = refl
first false b e = absurd (cc)

visible_byte : (b : ℕ) → is_visible b ≡ true → is_uri_byte b ≡ true
visible_byte b visible = grind (arith, nat_tests)

pub link_location : (url : List ℕ) → is_link url ≡ true → IsLocation url
link_location url link = All-weaker (λ b. is_visible b ≡ true) (λ b. is_uri_byte b ≡ true) visible_byte url
    (AllPass-from_list_all is_visible url
    (first (list_all is_visible url) (is_some (host_of url)) (second (nat_le (length url) url_limit) (list_all is_visible url && is_some (host_of url)) link)))

-- a response with a location that can be stated, and without a tag
abbrev pub IsLocated : ResponseValue → Type 0
IsLocated reply = IsLocation reply.location × (reply.tag ≡ []) × (reply.max_age ≡ 0)

abbrev no_bytes : List ℕ
no_bytes = []

plain : IsLocation no_bytes × (no_bytes ≡ no_bytes) × (zero ≡ zero)
plain = (nowhere, refl, refl)

either_located : (b : Bool) (one other : ResponseValue) → IsLocated one → IsLocated other → IsLocated (if b then one else other)
either_located true one other first second = first
either_located false one other first second = second

unasked_located : (site : site_file.SiteValue) (query : List ℕ) (code : Status) (representation : Representation) (ask : QueryFactsValue) (why : OpenUrlFault)
    → IsLocated (unasked_response site query code representation ask why)
unasked_located site query code representation ask why =
    let read : ResponseValue =
    response_with (numberless_status representation (names_work ask.citation) code) representation (numberless_body site query (names_work ask.citation) representation ask why) in
    let refused : ResponseValue = error_response site query status.BadRequest representation advice.TooManyNumbers (reason_text why) in
    either_located (asks_for_form query representation) (response_with status.Good Html (form_page site))
    (if is_numberless why then read else refused) plain
    (either_located (is_numberless why) read refused plain plain)

query_located : (actives : Sited) (code : Status) (representation : Representation) (text : List ℕ) (reply : SearchValue → ResponseValue) (o : Result SearchValue OpenUrlFault)
    → ((query : SearchValue) → IsLocated (reply query)) → IsLocated (query_response actives code representation text reply o)
query_located actives code representation text reply (Ok query) located = located query
query_located actives code representation text reply (Err why) located = unasked_located actives.library text code representation (ask_of text) why

-- a browser is redirected to a sole hit
sole_wanted : (wants : Bool) (link : Option (List ℕ)) (url : List ℕ) → (if wants then link else None) ≡ Some url → (wants ≡ true) × (link ≡ Some url)
sole_wanted true link url e = (refl, e)
sole_wanted false link url e = absurd (cc)

pub sole_hit : (representation : Representation) (actives : Sited) (query : SearchValue) (url : List ℕ) → sole_redirect representation actives query ≡ Some url
    → (representation ≡ Html) × (actives.library.redirects_sole_hit ≡ true) × IsSoleHit (found_among query actives) url
sole_hit Text actives query url e = absurd (cc)
sole_hit Json actives query url e = absurd (cc)
sole_hit Fragment actives query url e = absurd (cc)
sole_hit Sfx actives query url e = absurd (cc)
sole_hit Html actives query url e =
    let wanted = sole_wanted actives.library.redirects_sole_hit (sole_link (tally_among query actives)) url e in
    (refl, wanted.0, (sole_is (found_among query actives) url).0 wanted.1)

redirect_located : (hits_link : Option (List ℕ)) (other : ResponseValue) → ((url : List ℕ) → hits_link ≡ Some url → is_link url ≡ true) → IsLocated other
    → IsLocated (option_map_or redirect_to hits_link other)
redirect_located None other links located = located
redirect_located (Some url) other links located = (link_location url (links url refl), refl, refl)

resolve_located : (representation : Representation) (text : List ℕ) (actives : Sited) → IsLocated (resolve_response representation text actives)
resolve_located representation text actives =
    query_located actives status.Good representation text (found_response representation text actives) (asked_of text)
    (λ query. redirect_located (sole_redirect representation actives query) (hits_response status.Good representation text actives query)
    (λ url is. (sole_hit representation actives query url is).2.link) plain)

package_located : (representation : Representation) (text : List ℕ) (actives : Sited) (other : ResponseValue) (o : Option ℕ) → IsLocated other
    → IsLocated (option_map_or (resolve_response_at representation text actives) o other)
package_located representation text actives other None located = located
package_located representation text actives other (Some place) located = resolve_located representation text _

-- the address of the first link of a library is safe, and so is the better of two such addresses
first_is_link : (links : List LibraryLinkValue) (url : List ℕ) → list_all is_safe links ≡ true → first_address links ≡ Some url → is_link url ≡ true
first_is_link [] url safe is = absurd (cc)
first_is_link (link ∷ links) url safe is =
    let same : link.address ≡ url = cc in
    ap is_link (sym same) ∙ first (is_link link.address) (list_all is_safe links) safe

either_is_link : (one other : Option (List ℕ)) (url : List ℕ) → ((text : List ℕ) → one ≡ Some text → is_link text ≡ true)
    → ((text : List ℕ) → other ≡ Some text → is_link text ≡ true) → option_or one other ≡ Some url → is_link url ≡ true
either_is_link None other url first_safe second_safe is = second_safe url is
either_is_link (Some text) other url first_safe second_safe is = first_safe url is

pub target_is_link : (search : SearchValue) (actives : Sited) (url : List ℕ) → target_of search actives ≡ Some url → is_link url ≡ true
target_is_link search actives url is =
    let hits = hits_among search actives in
    let tally = tally_among search actives in
    let library = library_target actives.library (outcome_of tally) search in
    let cited = with_title_id [] search.cited in
    either_is_link tally.best_open (option_or library tally.best) url (best_is (filter is_open hits))
    (λ text. either_is_link library tally.best text
    (λ address. first_is_link (library_links actives.library Followed (outcome_of tally) cited) address
    (requests_are_links actives.library Followed (outcome_of tally) cited))
    (best_is hits))
    is

best_located : (representation : Representation) (text : List ℕ) (actives : Sited) (query : SearchValue) → IsLocated (redirect_response representation text actives query)
best_located representation text actives query =
    redirect_located (target_of query actives) (hits_response (status_without (tally_among query actives).is_whole) representation text actives query)
    (target_is_link query actives) plain

go_located : (representation : Representation) (text : List ℕ) (actives : Sited) → IsLocated (go_response representation text actives)
go_located representation text actives =
    query_located actives status.NotFound representation text (redirect_response representation text actives) (asked_of text) (best_located representation text actives)

titles_located : (site : site_file.SiteValue) (representation : Representation) (actives : List ActiveValue) (o : Result title_searches.TitleSearchValue TitleFault)
    → IsLocated (titles_by site representation actives o)
titles_located site representation actives (Ok ask) = plain
titles_located site Html actives (Err NoText) = plain
titles_located site Html actives (Err TooLong) = plain
titles_located site Html actives (Err BadStart) = plain
titles_located site Text actives (Err why) = plain
titles_located site Json actives (Err why) = plain
titles_located site Fragment actives (Err why) = plain
titles_located site Sfx actives (Err why) = plain

route_located : (r : Route) (head : RequestHead) (path query : List ℕ) (actives : Sited) → IsLocated (route_response r head path query actives)
route_located route.Home head path query actives = plain
route_located route.Status head path query actives = plain
route_located route.Resolve head path query actives = resolve_located (representation_of route.Resolve query head) query actives
route_located route.Package head path query actives =
    package_located (representation_of route.Package query head) query actives
    (error_response actives.library query status.NotFound (representation_of route.Package query head) advice.NoList (codes "NoRelease"))
    (position (is_of (package_in path)) actives.actives) plain
route_located route.Go head path query actives = go_located (accepted_representation head) query actives
route_located route.Titles head path query actives =
    titles_located actives.library (representation_of route.Titles query head) actives.actives (title_searches.ask_of query)
route_located other head path query actives = plain

target_located : (head : RequestHead) (query : List ℕ) (actives : Sited) → IsLocated (target_response head query actives)
target_located head query actives = route_located (route_of head) head (path_of head) query actives

method_located : (r : Route) → IsLocated (method_refusal r)
method_located route.Resolve = plain
method_located route.Package = plain
method_located route.Go = plain
method_located other = plain

plain_located : (head : RequestHead) (actives : Sited) → IsLocated (plain_response head actives)
plain_located head actives =
    let coded : ResponseValue = if has_coded_body head then refusal status.NotImplemented Text (codes "Coding") else target_response head (target_query head) actives in
    let unknown : ResponseValue = if not (is_get head || is_head head) then refusal status.NotImplemented Text (codes "Method") else coded in
    either_located (is_unsupported_method head.method) (method_refusal (route_of head)) unknown (method_located (route_of head))
    (either_located (not (is_get head || is_head head)) (refusal status.NotImplemented Text (codes "Method")) coded plain
    (either_located (has_coded_body head) (refusal status.NotImplemented Text (codes "Coding")) (target_response head (target_query head) actives) plain
    (target_located head (target_query head) actives)))

refusal_located : (why : FormFault) → IsLocated (form_refusal why)
refusal_located fault.Coding = plain
refusal_located fault.NoLength = plain
refusal_located fault.BadLength = plain
refusal_located fault.TooLong = plain
refusal_located fault.MediaType = plain

form_located : (head : RequestHead) (body : List ℕ) (actives : Sited) (form : Option (Result ℕ FormFault)) → IsLocated (response_by_form head body actives form)
form_located head body actives None = plain_located head actives
form_located head body actives (Some (Ok n)) = target_located head body actives
form_located head body actives (Some (Err why)) = refusal_located why

pub response_located : (head : RequestHead) (body : List ℕ) (actives : Sited) → IsLocated (untagged_response head body actives)
response_located head body actives =
    either_located (lacks_host head) (refusal status.BadRequest Text (codes "NoHost")) (response_by_form head body actives (form_of head)) plain
    (form_located head body actives (form_of head))
