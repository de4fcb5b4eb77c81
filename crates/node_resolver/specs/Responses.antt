-- The response to a request, as a function of its head, of the active releases and of the day.
use Rattle.std.specs.Prelude.{◌≡◌, ◌⊎◌, ℕ, ◌||◌, not, Bool, if◌then◌else◌, List, [], ◌∷◌, codes, Option, Some, None, Result, Ok, Err, position}
use Rattle.std.specs.Option.{option_map_or, option_or}
use Rattle.httparse.specs.Grammar.{RequestHead}
use Rattle.feed_http_heads.specs.Fields.{values_named, has_any}
use Rattle.feed_http_heads.specs.Targets.{origin_form}
use Rattle.feed_http_heads.specs.Requests.{lacks_host, is_get, is_head}
use Rattle.node_hits.specs.Searches.{SearchValue}
use Rattle.node_links.specs.Articles.{with_title_id}
use Rattle.feed_openurl.specs.declared.fault.OpenUrlFault.{OpenUrlFault}
use Rattle.feed_answer.specs.Today.{TodayValue}
use Rattle.feed_model.specs.History.{History}
use Rattle.feed_releases.specs.Actives.{ActiveValue, AreReported}
use Rattle.node_request.specs.FoundRequests.{BeginsWith, HasNoHead}
use Rattle.node_request.specs.Forms.{form_of, takes_form}
use Rattle.node_request.specs.declared.form.FormFault.{FormFault}
use Rattle.node_request.specs.declared.form.FormFault.TheVariants as fault
use Rattle.node_request.specs.Representations.{accepted_representation, representation_of}
use Rattle.node_request.specs.Routes.{path_in, query_in, route_of, package_in, is_unsupported_method}
use Rattle.node_request.specs.declared.representation.Representation.{Representation}
use Rattle.node_request.specs.declared.representation.Representation.TheVariants.{Text, Json, Html, Fragment, Sfx}
use Rattle.node_request.specs.declared.route.Route.{Route}
use Rattle.node_request.specs.declared.route.Route.TheVariants as route
use Rattle.node_response.specs.Responses.{ResponseValue, ResponseTextValue, response_with, redirect_to, refusal, of_site, response_of, bad_head_response}
use Rattle.node_response.specs.declared.status.Status.{Status}
use Rattle.node_response.specs.declared.status.Status.TheVariants as status
use Rattle.node_hits.specs.Lookups.{asked_of}
use Rattle.node_hits.specs.QueryFacts.{ask_of}
use Rattle.node_hits.specs.Tallies.{TallyValue, followed_link, outcome_of, sole_link}
use Rattle.node_links.specs.LibraryLinks.{LibraryLinkValue, library_links}
use Rattle.node_site.specs.Site as site_file
use Rattle.node_site.specs.declared.occasion.LinkUse.TheVariants.{Followed}
use Rattle.node_site.specs.declared.occasion.SearchOutcome.{SearchOutcome}
use Rattle.node_site.specs.declared.text_table.Text.TheVariants as advice
use Rattle.node_pages.specs.ErrorPages.{error_response}
use Rattle.node_pages.specs.QueryRefusals.{unasked_response}
use Rattle.node_pages.specs.TitlesPage.{titles_response}
use Rattle.node_resolver.specs.Answers.{Dated, Sited, dated, is_of, only_at, sited, tally_among, answers_body}
use Rattle.node_response.specs.Tags.{SiteValue}
use Rattle.node_resolver.specs.Status.{status_body}
use Rattle.node_pages.specs.HomePage.{home_page}
use Rattle.node_resolver.specs.Validators.{final_response, tag_to}

-- the response to what a query asks for, or the one that says why nothing is looked up
abbrev pub query_response : Sited → Status → Representation → List ℕ → (SearchValue → ResponseValue) → Result SearchValue OpenUrlFault → ResponseValue
query_response actives code representation text reply (Ok search) = reply search
query_response actives code representation text reply (Err reason) =
    unasked_response actives.library text code representation (ask_of text) reason

-- the hits in the given releases
abbrev pub hits_response : Status → Representation → List ℕ → Sited → SearchValue → ResponseValue
hits_response code representation text actives search = response_with code representation (answers_body representation text search actives)

-- the link that a browser is redirected to: that of the sole hit, if the library wants it
abbrev pub sole_redirect : Representation → Sited → SearchValue → Option (List ℕ)
sole_redirect Text actives search = None
sole_redirect Json actives search = None
sole_redirect Fragment actives search = None
sole_redirect Sfx actives search = None
sole_redirect Html actives search =
    if actives.library.redirects_sole_hit then sole_link (tally_among search actives) else None

-- a redirect to the sole hit, or the hits
abbrev pub found_response : Representation → List ℕ → Sited → SearchValue → ResponseValue
found_response representation text actives search = option_map_or redirect_to
    (sole_redirect representation actives search) (hits_response status.Good representation text actives search)

-- the answer of all packages, by package
abbrev pub resolve_response : Representation → List ℕ → Sited → ResponseValue
resolve_response representation text actives =
    query_response actives status.Good representation text (found_response representation text actives) (asked_of text)

-- the answer of the release at a place
abbrev pub resolve_response_at : Representation → List ℕ → Sited → ℕ → ResponseValue
resolve_response_at representation text actives place = resolve_response representation text (only_at place actives)

-- the answer of one package, if it has an active release
abbrev pub package_response : Representation → List ℕ → List ℕ → Sited → ResponseValue
package_response representation package_name text actives = option_map_or (resolve_response_at representation text actives)
    (position (is_of package_name) actives.actives)
    (error_response actives.library text status.NotFound representation advice.NoList (codes "NoRelease"))

-- the status of an answer in place of a redirect: whether there is nothing to go to is known only if all rows are looked at
abbrev pub status_without : Bool → Status
status_without is_whole = if is_whole then status.NotFound else status.Good

-- the address of the first of some links
abbrev pub first_address : List LibraryLinkValue → Option (List ℕ)
first_address [] = None
first_address (link ∷ links) = Some link.address

-- the library's link to which a reader is sent who finds no open hit, by the outcome of the search
abbrev pub library_target : site_file.SiteValue → SearchOutcome → SearchValue → Option (List ℕ)
library_target site outcome search = first_address (library_links site Followed outcome (with_title_id [] search.cited))

-- the address to which it redirects if no open hit may be linked to
abbrev pub closed_target : site_file.SiteValue → SearchValue → TallyValue → Option (List ℕ)
closed_target site search tally = option_or (library_target site (outcome_of tally) search) tally.best

-- the address to which `/go` redirects: by the hits that are counted, and the links of the library
abbrev pub target_in : site_file.SiteValue → SearchValue → TallyValue → Option (List ℕ)
target_in site search tally = followed_link (library_target site (outcome_of tally) search) tally

abbrev pub target_of : SearchValue → Sited → Option (List ℕ)
target_of search actives = target_in actives.library search (tally_among search actives)

-- a redirect to that address, or the answer if there is none
abbrev pub redirect_response : Representation → List ℕ → Sited → SearchValue → ResponseValue
redirect_response representation text actives search = option_map_or redirect_to
    (target_of search actives)
    (hits_response (status_without (tally_among search actives).is_whole) representation text actives search)

-- the same for what a text asks
abbrev pub go_response : Representation → List ℕ → Sited → ResponseValue
go_response representation text actives =
    query_response actives status.NotFound representation text (redirect_response representation text actives) (asked_of text)

-- the response by the route of a path, to this query
abbrev pub route_response : Route → RequestHead → List ℕ → List ℕ → Sited → ResponseValue
route_response route.Home head path query actives = response_with status.Good Html (home_page actives.library actives.actives)
route_response route.Status head path query actives =
    response_with status.Good (representation_of route.Status query head) (status_body actives.library (representation_of route.Status query head) actives.actives)
route_response route.Resolve head path query actives = resolve_response (representation_of route.Resolve query head) query actives
route_response route.Package head path query actives = package_response (representation_of route.Package query head) (package_in path) query actives
route_response route.Go head path query actives = go_response (accepted_representation head) query actives
route_response route.Titles head path query actives =
    titles_response actives.library (representation_of route.Titles query head) query actives.actives
route_response other head path query actives =
    error_response actives.library query status.NotFound (accepted_representation head) advice.NoPage (codes "NoTarget")

-- the path of a request's target, and the query in it
abbrev pub path_of : RequestHead → List ℕ
path_of head = path_in (origin_form head.target)

abbrev pub target_query : RequestHead → List ℕ
target_query head = query_in (origin_form head.target)

-- the response to a query of the target's path
abbrev pub target_response : RequestHead → List ℕ → Sited → ResponseValue
target_response head query actives = route_response (route_of head) head (path_of head) query actives

-- a body of unknown length follows
abbrev pub has_coded_body : RequestHead → Bool
has_coded_body head = has_any (values_named (codes "transfer-encoding") head.fields)

-- the response to a method that the route does not take: it says which ones it takes (RFC 9110, section 10.2.1)
abbrev pub method_refusal : Route → ResponseValue
method_refusal route =
    if takes_form route then refusal status.GetOrPost Text (codes "Method") else refusal status.MethodNotAllowed Text (codes "Method")

-- the response to a request that submits no form: the first case that holds
abbrev pub plain_response : RequestHead → Sited → ResponseValue
plain_response head actives =
    if is_unsupported_method head.method then method_refusal (route_of head)
    else (if not (is_get head || is_head head) then refusal status.NotImplemented Text (codes "Method")
    else (if has_coded_body head then refusal status.NotImplemented Text (codes "Coding")
    else target_response head (target_query head) actives))

-- the response to a form that is not read
abbrev pub form_refusal : FormFault → ResponseValue
form_refusal fault.Coding = refusal status.NotImplemented Text (codes "Coding")
form_refusal fault.NoLength = refusal status.LengthRequired Text (codes "Length")
form_refusal fault.BadLength = refusal status.BadRequest Text (codes "Length")
form_refusal fault.TooLong = refusal status.ContentTooLarge Text (codes "TooLong")
form_refusal fault.MediaType = refusal status.UnsupportedMediaType Text (codes "Type")

-- the response to a form: the body is the query
abbrev pub form_response : RequestHead → List ℕ → Sited → Result ℕ FormFault → ResponseValue
form_response head body actives (Ok n) = target_response head body actives
form_response head body actives (Err fault) = form_refusal fault

-- the response to a request that submits a form, or none
abbrev pub response_by_form : RequestHead → List ℕ → Sited → Option (Result ℕ FormFault) → ResponseValue
response_by_form head body actives None = plain_response head actives
response_by_form head body actives (Some form) = form_response head body actives form

-- the response to a request with this head and this body, which only a form has
abbrev pub untagged_response : RequestHead → List ℕ → Sited → ResponseValue
untagged_response head body actives =
    if lacks_host head then refusal status.BadRequest Text (codes "NoHost") else response_by_form head body actives (form_of head)

-- the response with its tag: a preflight has its own, and a client that has the representation gets no body
abbrev pub tagged_response : SiteValue → RequestHead → List ℕ → Dated → ResponseValue
tagged_response site head body actives = final_response head (tag_to site actives head) site.max_age (untagged_response head body (sited site actives))

-- the same as the site sends it: a page is UTF-8, and its policy lets forms be redirected if the site redirects
abbrev pub site_response : SiteValue → RequestHead → List ℕ → Dated → ResponseValue
site_response site head body actives = of_site site.library.redirects_sole_hit (tagged_response site head body actives)

-- the same with its bytes, on a connection that is kept or not
abbrev pub response_to : SiteValue → Bool → RequestHead → List ℕ → Dated → ResponseTextValue
response_to site keeps head body actives = response_of keeps (is_head head) (site_response site head body actives)

-- the response to the head at the front of the bytes, within the limits
abbrev pub IsResponseToHead : SiteValue → List ℕ → List ℕ → Bool → Dated → ResponseTextValue → Type 0
IsResponseToHead site bytes body keeps actives response =
    (head : RequestHead) × BeginsWith bytes head × (response ≡ response_to site keeps head body actives)

-- the response if the bytes have no such head
abbrev pub IsResponseToNone : List ℕ → Bool → ResponseTextValue → Type 0
IsResponseToNone bytes keeps response = HasNoHead bytes × (response ≡ bad_head_response keeps)

-- the response to the bytes of a request and to its body, after which the connection is kept or not
abbrev pub IsResponse : SiteValue → List ℕ → List ℕ → Bool → Dated → ResponseTextValue → Type 0
IsResponse site bytes body keeps actives response =
    IsResponseToHead site bytes body keeps actives response ⊎ IsResponseToNone bytes keeps response

-- the response on a day from exactly the releases that a feed with this history reports, with the holdings of their
-- complete files
abbrev pub IsResponseAt : SiteValue → TodayValue → History → List ℕ → List ℕ → Bool → ResponseTextValue → Type 0
IsResponseAt site today h bytes body keeps response =
    (actives : List ActiveValue) × AreReported h actives × IsResponse site bytes body keeps (dated today actives) response
