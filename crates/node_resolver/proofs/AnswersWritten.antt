-- The answers that are written are those of the definition.
use Rattle.std.proofs.Common.{◌≡◌, ℕ, Option, Some, None, Result, Ok, List, option_map, [], ◌∷◌, ◌++◌, refl, sym, ap, ◌∙◌}
use Rattle.std.proofs.lemmas.List.Sums.{fold-append}
use Rattle.feed_answer.specs.Today.{TodayValue}
use Rattle.feed_openurl.specs.declared.fault.OpenUrlFault.{OpenUrlFault}
use Rattle.node_site.specs.Site as site_file
use Rattle.node_hits.specs.Lookups.{asked_of}
use Rattle.node_hits.specs.Searches.{SearchValue}
use Rattle.node_links.specs.Articles.{with_title_id}
use Rattle.node_hits.specs.Sfx.{sfx_reply}
use Rattle.node_links.specs.Requests.{CitedTitleValue}
use Rattle.node_request.specs.SfxQueries.{sfx_options_in}
use Rattle.node_request.specs.declared.sfx_query.SfxOptions.{SfxOptions}
use Rattle.feed_releases.specs.Actives.{ActiveValue}
use Rattle.node_request.specs.declared.representation.Representation.{Representation}
use Rattle.node_request.specs.declared.representation.Representation.TheVariants.{Text, Json, Html, Fragment, Sfx}
use Rattle.std.specs.Option.{option_map_or}
use Rattle.node_response.specs.Responses.{ResponseValue, redirect_to}
use Rattle.node_response.specs.declared.status.Status.{Status}
use Rattle.node_hits.specs.Looks.{FoundValue}
use Rattle.node_hits.specs.declared.shares.Shares.{Shares}
use Rattle.node_hits.specs.HitsText.{release_text}
use Rattle.node_hits.specs.AnswerJson.{answer_json}
use Rattle.node_hits.specs.QueryFacts.{QueryFactsValue, ask_of}
use Rattle.node_hits.specs.Tallies.{TallyValue, sole_link, tally_of}
use Rattle.node_hits.specs.Tallying.{RunningValue, with_release, with_releases, no_hits, tally_from}
use Rattle.node_hits.proofs.Tallies.{tally_is}
use Rattle.node_resolver.specs.Answers.{Sited, also_beside, answers_body, body_by, found_among, found_by, others_beside, release_in, shares_in, sited_by, tally_among, texts_behind}
use Rattle.node_resolver.specs.AnswerTexts.{texts_from}
use Rattle.node_resolver.specs.Responses.{query_response, target_in, target_of}
use Rattle.node_pages.specs.Fragments.{hits_fragment}
use Rattle.node_pages.specs.HitsPage.{hits_page}

-- the tallies of an answer's other parts
abbrev pub also_among : SearchValue → Sited → TallyValue
also_among search actives = tally_of (also_beside search actives)

abbrev pub others_among : SearchValue → Sited → TallyValue
others_among search actives = tally_of (others_beside (tally_among search actives).count search actives)

abbrev after : List FoundValue → RunningValue
after founds = with_releases no_hits founds

texts_are : (shares : Shares) (site : site_file.SiteValue) (today : TodayValue) (search : SearchValue) (earlier : List FoundValue) (actives : List ActiveValue)
    → texts_from shares site today search (after earlier) actives ≡ texts_behind earlier (found_by shares search (sited_by site today actives))
texts_are shares site today search earlier [] = refl
texts_are shares site today search earlier (active ∷ actives) =
    let own : FoundValue = release_in shares site today search active in
    let joint : with_release (after earlier) own ≡ after (earlier ++ own ∷ []) = sym (fold-append with_release no_hits earlier (own ∷ [])) in
    ap (λ (r : RunningValue). release_text (tally_from (after earlier)) (tally_from r) active.name ++ texts_from shares site today search r actives) joint
    ∙ ap (λ (t : TallyValue). release_text t (tally_from (after (earlier ++ own ∷ []))) active.name ++ texts_from shares site today search (after (earlier ++ own ∷ [])) actives) (tally_is earlier)
    ∙ ap (λ (t : TallyValue). release_text (tally_of earlier) t active.name ++ texts_from shares site today search (after (earlier ++ own ∷ [])) actives) (tally_is (earlier ++ own ∷ []))
    ∙ ap (λ t. release_text (tally_of earlier) (tally_of (earlier ++ own ∷ [])) active.name ++ t) (texts_are shares site today search (earlier ++ own ∷ []) actives)

pub text_written : (representation : Representation) (text : List ℕ) (shares : Shares) (search : SearchValue) (actives : Sited) (old new : List ℕ) → representation ≡ Text
    → shares ≡ shares_in search actives → new ≡ old ++ texts_from shares actives.library actives.today search no_hits actives.actives
    → new ≡ old ++ answers_body representation text search actives
unfolding body_by
text_written representation text shares search actives old new chosen shared is =
    is ∙ ap (λ t. old ++ t) (texts_are shares actives.library actives.today search [] actives.actives)
    ∙ ap (λ (s : Shares). old ++ texts_behind [] (found_by s search actives)) shared
    ∙ ap (λ (r : Representation). old ++ answers_body r text search actives) (sym chosen)

pub json_written : (ask : QueryFactsValue) (search : SearchValue) (actives : Sited) (running also : RunningValue) (old new : List ℕ)
    → running ≡ with_releases no_hits (found_among search actives) → also ≡ with_releases no_hits (also_beside search actives)
    → new ≡ old ++ answer_json ask [] (tally_from running) (tally_from also)
    → new ≡ old ++ answer_json ask [] (tally_among search actives) (also_among search actives)
json_written ask search actives running also old new made beside is =
    is ∙ ap (λ (r : RunningValue). old ++ answer_json ask [] (tally_from r) (tally_from also)) made
    ∙ ap (λ (t : TallyValue). old ++ answer_json ask [] t (tally_from also)) (tally_is (found_among search actives))
    ∙ ap (λ (r : RunningValue). old ++ answer_json ask [] (tally_among search actives) (tally_from r)) beside
    ∙ ap (λ (t : TallyValue). old ++ answer_json ask [] (tally_among search actives) t) (tally_is (also_beside search actives))

pub json_answered : (representation : Representation) (text : List ℕ) (ask : QueryFactsValue) (search : SearchValue) (actives : Sited) (old new : List ℕ)
    → representation ≡ Json → ask ≡ ask_of text → new ≡ old ++ answer_json ask [] (tally_among search actives) (also_among search actives)
    → new ≡ old ++ answers_body representation text search actives
unfolding body_by
json_answered representation text ask search actives old new chosen read is =
    is ∙ ap (λ (a : QueryFactsValue). old ++ answer_json a [] (tally_among search actives) (also_among search actives)) read
    ∙ ap (λ (r : Representation). old ++ answers_body r text search actives) (sym chosen)

-- what shows the tallies of a query to the readers of a site
abbrev pub Shows : Type 0
Shows = site_file.SiteValue → QueryFactsValue → TallyValue → TallyValue → TallyValue → List ℕ

pub shown_written : (shows : Shows) (site : site_file.SiteValue) (ask : QueryFactsValue) (search : SearchValue) (actives : Sited)
    (running also others : RunningValue) (count : ℕ) (old new : List ℕ)
    → site ≡ actives.library → running ≡ with_releases no_hits (found_among search actives) → also ≡ with_releases no_hits (also_beside search actives)
    → count ≡ (tally_from running).count → others ≡ with_releases no_hits (others_beside count search actives)
    → new ≡ old ++ shows site ask (tally_from running) (tally_from also) (tally_from others)
    → new ≡ old ++ shows actives.library ask (tally_among search actives) (also_among search actives) (others_among search actives)
shown_written shows site ask search actives running also others count old new of made dated counts beside is =
    let tally : TallyValue = tally_among search actives in
    let covered : TallyValue = also_among search actives in
    let counted_is : count ≡ tally.count =
    counts ∙ ap (λ (r : RunningValue). (tally_from r).count) made ∙ ap (λ (t : TallyValue). t.count) (tally_is (found_among search actives)) in
    is ∙ ap (λ (s : site_file.SiteValue). old ++ shows s ask (tally_from running) (tally_from also) (tally_from others)) of
    ∙ ap (λ (r : RunningValue). old ++ shows actives.library ask (tally_from r) (tally_from also) (tally_from others)) made
    ∙ ap (λ (t : TallyValue). old ++ shows actives.library ask t (tally_from also) (tally_from others)) (tally_is (found_among search actives))
    ∙ ap (λ (r : RunningValue). old ++ shows actives.library ask tally (tally_from r) (tally_from others)) dated
    ∙ ap (λ (t : TallyValue). old ++ shows actives.library ask tally t (tally_from others)) (tally_is (also_beside search actives))
    ∙ ap (λ (r : RunningValue). old ++ shows actives.library ask tally covered (tally_from r)) beside
    ∙ ap (λ (t : TallyValue). old ++ shows actives.library ask tally covered t) (tally_is (others_beside count search actives))
    ∙ ap (λ n. old ++ shows actives.library ask tally covered (tally_of (others_beside n search actives))) counted_is

pub page_answered : (representation : Representation) (text : List ℕ) (ask : QueryFactsValue) (search : SearchValue) (actives : Sited) (old new : List ℕ)
    → representation ≡ Html → ask ≡ ask_of text
    → new ≡ old ++ hits_page actives.library text ask (tally_among search actives) (also_among search actives) (others_among search actives)
    → new ≡ old ++ answers_body representation text search actives
unfolding body_by
page_answered representation text ask search actives old new chosen read is =
    is ∙ ap (λ (a : QueryFactsValue). old ++ hits_page actives.library text a (tally_among search actives) (also_among search actives) (others_among search actives)) read
    ∙ ap (λ (r : Representation). old ++ answers_body r text search actives) (sym chosen)

pub sfx_written : (options : SfxOptions) (text : List ℕ) (site : site_file.SiteValue) (search : SearchValue) (actives : Sited) (running : RunningValue) (cited : CitedTitleValue)
    (old new : List ℕ) → options ≡ sfx_options_in text → site ≡ actives.library → running ≡ with_releases no_hits (found_among search actives)
    → cited ≡ with_title_id [] search.cited → new ≡ old ++ sfx_reply options site (tally_from running) cited
    → new ≡ old ++ answers_body Sfx text search actives
unfolding body_by
sfx_written options text site search actives running cited old new read of made cites is =
    is ∙ ap (λ (o : SfxOptions). old ++ sfx_reply o site (tally_from running) cited) read
    ∙ ap (λ (s : site_file.SiteValue). old ++ sfx_reply (sfx_options_in text) s (tally_from running) cited) of
    ∙ ap (λ (r : RunningValue). old ++ sfx_reply (sfx_options_in text) actives.library (tally_from r) cited) made
    ∙ ap (λ (t : TallyValue). old ++ sfx_reply (sfx_options_in text) actives.library t cited) (tally_is (found_among search actives))
    ∙ ap (λ (c : CitedTitleValue). old ++ sfx_reply (sfx_options_in text) actives.library (tally_among search actives) c) cites

pub fragment_answered : (representation : Representation) (text : List ℕ) (ask : QueryFactsValue) (search : SearchValue) (actives : Sited) (old new : List ℕ)
    → representation ≡ Fragment → ask ≡ ask_of text
    → new ≡ old ++ hits_fragment actives.library text ask (tally_among search actives) (also_among search actives) (others_among search actives)
    → new ≡ old ++ answers_body representation text search actives
unfolding body_by
fragment_answered representation text ask search actives old new chosen read is =
    is ∙ ap (λ (a : QueryFactsValue). old ++ hits_fragment actives.library text a (tally_among search actives) (also_among search actives) (others_among search actives)) read
    ∙ ap (λ (r : Representation). old ++ answers_body r text search actives) (sym chosen)

-- the address that follows from a tally, by the site of its search
pub target_made : (site : site_file.SiteValue) (search : SearchValue) (actives : Sited) (running : RunningValue) → site ≡ actives.library
    → running ≡ with_releases no_hits (found_among search actives) → target_in site search (tally_from running) ≡ target_of search actives
target_made site search actives running of made =
    ap (λ (s : site_file.SiteValue). target_in s search (tally_from running)) of
    ∙ ap (λ (r : RunningValue). target_in actives.library search (tally_from r)) made
    ∙ ap (λ (t : TallyValue). target_in actives.library search t) (tally_is (found_among search actives))

pub sole_made : (search : SearchValue) (actives : Sited) (running : RunningValue) → running ≡ with_releases no_hits (found_among search actives)
    → sole_link (tally_from running) ≡ sole_link (tally_of (found_among search actives))
sole_made search actives running made = ap (λ (r : RunningValue). sole_link (tally_from r)) made ∙ ap sole_link (tally_is (found_among search actives))

pub whole_made : (search : SearchValue) (actives : Sited) (running : RunningValue) → running ≡ with_releases no_hits (found_among search actives)
    → (tally_from running).is_whole ≡ (tally_of (found_among search actives)).is_whole
whole_made search actives running made =
    ap (λ (r : RunningValue). (tally_from r).is_whole) made ∙ ap (λ (t : TallyValue). t.is_whole) (tally_is (found_among search actives))

-- a redirect to the link, if one was copied, and another response if not
pub linked : {A : Type 0} (text : A → List ℕ) (link : Option A) (found : Option (List ℕ)) (one : A) (other : ResponseValue) → option_map text link ≡ found → link ≡ Some one
    → redirect_to (text one) ≡ option_map_or redirect_to found other
linked text link found one other is some = ap (λ o. option_map_or redirect_to o other) (sym (ap (option_map text) some) ∙ is)

pub unlinked : {A : Type 0} (text : A → List ℕ) (link : Option A) (found : Option (List ℕ)) (other : ResponseValue) → option_map text link ≡ found → link ≡ None
    → other ≡ option_map_or redirect_to found other
unlinked text link found other is none = ap (λ o. option_map_or redirect_to o other) (sym (ap (option_map text) none) ∙ is)

-- the response to what a query asks for is that to the query's text
pub looked_up : (reply : Representation → List ℕ → SearchValue → ResponseValue) (actives : Sited) (code : Status) (mine representation : Representation)
    (own text : List ℕ) (found : Result SearchValue OpenUrlFault) (search : SearchValue) → mine ≡ representation → own ≡ text → found ≡ asked_of own → found ≡ Ok search
    → reply mine own search ≡ query_response actives code representation text (reply representation text) (asked_of text)
looked_up reply actives code mine representation own text found search same_kind same_text asked is =
    (λ i. reply (same_kind i) (same_text i) search)
    ∙ ap (query_response actives code representation text (reply representation text)) (sym (sym (asked ∙ ap asked_of same_text) ∙ is))
