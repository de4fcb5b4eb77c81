-- Writing a reply of SFX in steps writes the whole.
use Rattle.std.proofs.Common.{◌≡◌, ℕ, suc, Bool, true, false, List, [], ◌∷◌, ◌++◌, refl, sym, ap, ◌∙◌, inl, inr, append_assoc, arith, codes, map}
use Rattle.std.specs.Prelude.{◌==◌, if◌then◌else◌, filter, length}
use Rattle.std.specs.List.{flat_map}
use Rattle.std.proofs.lemmas.Bool.{cases_Bool, eqb-true}
use Rattle.std.proofs.lemmas.Grind.{flat_map-append}
use Rattle.std.proofs.lemmas.List.{append-nil}
use Rattle.feed_names.specs.ReleaseName.{Name}
use Rattle.feed_xml.specs.Elements.{leaf}
use Rattle.feed_xml.specs.Marks.{Mark, closed, element, mark_text, opened, xml_text}
use Rattle.feed_xml.specs.declared.tags.TheConstants.{DECLARATION}
use Rattle.feed_xml.proofs.Written.{element_text, element_written}
use Rattle.node_request.specs.declared.sfx_query.SfxOptions.{SfxOptions}
use Rattle.node_site.specs.Hosts.{is_link}
use Rattle.node_links.specs.LibraryLinks.{LibraryLinkValue, library_links}
use Rattle.node_links.specs.Requests.{CitedTitleValue}
use Rattle.node_site.specs.Site as site_file
use Rattle.node_site.specs.declared.occasion.LinkUse.TheVariants.{Shown}
use Rattle.node_site.specs.declared.occasion.SearchOutcome.{SearchOutcome}
use Rattle.node_hits.specs.Hits.{ReleaseHitValue, link_text}
use Rattle.node_hits.specs.Sfx.{TargetValue, hit_target, hit_targets, is_asked, is_target, link_target, link_targets, more_marks, more_of, named_marks, no_targets}
use Rattle.node_hits.specs.Sfx.{reply_marks, reply_text, request_marks, sfx_reply, target_marks, targets_of}
use Rattle.node_hits.specs.SfxTexts.{behind_text, end_text, hit_text, linked_text, start_text, way_text, ways_text}
use Rattle.node_hits.specs.Tallies.{TallyValue, outcome_of}
use Rattle.node_hits.specs.declared.sfx_names.TheConstants.{CTX_OBJ_SET, CTX_OBJ, CTX_OBJ_ATTRIBUTES, CTX_OBJ_TARGETS, MORE_IN}

-- the texts of targets
abbrev texts : List TargetValue → List ℕ
texts targets = xml_text (flat_map target_marks targets)

texts_append : (xs ys : List TargetValue) → texts (xs ++ ys) ≡ texts xs ++ texts ys
texts_append xs ys = ap xml_text (flat_map-append target_marks xs ys) ∙ flat_map-append mark_text (flat_map target_marks xs) (flat_map target_marks ys)

-- one hit
abbrev if_target : Bool → TargetValue → List TargetValue
if_target is target = if is then target ∷ [] else []

one_text : (target : TargetValue) → texts (target ∷ []) ≡ xml_text (target_marks target)
one_text target = ap xml_text (append-nil (target_marks target))

hit_written : (options : SfxOptions) (site : site_file.SiteValue) (found : ReleaseHitValue)
    → hit_text options site found ≡ texts (if_target (is_target options found) (hit_target options site found))
unfolding hit_text linked_text
hit_written options site found = elim (cases_Bool (is_asked options found)) [
  | inl asked ↦ elim (cases_Bool (is_link (link_text found))) [
    | inl link ↦ rw (asked, link) (sym (one_text (hit_target options site found)))
    | inr other ↦ rw (asked, other) refl
  ]
  | inr other ↦ rw other refl
]

hits_split : (options : SfxOptions) (site : site_file.SiteValue) (is : Bool) (found : ReleaseHitValue) (rest : List ReleaseHitValue)
    → map (hit_target options site) (if is then found ∷ rest else rest) ≡ if_target is (hit_target options site found) ++ map (hit_target options site) rest
hits_split options site true found rest = refl
hits_split options site false found rest = refl

hits_written : (options : SfxOptions) (site : site_file.SiteValue) (hits : List ReleaseHitValue)
    → flat_map (hit_text options site) hits ≡ texts (hit_targets options site hits)
hits_written options site [] = refl
hits_written options site (found ∷ hits) =
    let one : List TargetValue = if_target (is_target options found) (hit_target options site found) in
    ap (λ t. t ++ flat_map (hit_text options site) hits) (hit_written options site found)
    ∙ ap (λ t. texts one ++ t) (hits_written options site hits)
    ∙ sym (texts_append one (hit_targets options site hits))
    ∙ ap texts (sym (hits_split options site (is_target options found) found (filter (is_target options) hits)))

-- the links
each_way : (links : List LibraryLinkValue) → flat_map way_text links ≡ texts (map link_target links)
unfolding way_text
each_way [] = refl
each_way (link ∷ links) =
    ap (λ t. xml_text (target_marks (link_target link)) ++ t) (each_way links)
    ∙ sym (flat_map-append mark_text (target_marks (link_target link)) (flat_map target_marks (map link_target links)))

either_way : (alone : Bool) (links : List LibraryLinkValue) → (if alone then [] else flat_map way_text links) ≡ texts (if alone then [] else map link_target links)
either_way true links = refl
either_way false links = each_way links

-- the document is what is before the targets, the targets, and what is behind them
regrouped : (front set request attributes list targets list_end more request_end set_end end : List ℕ)
    → front ++ ((set ++ ((request ++ ((attributes ++ ((list ++ (targets ++ list_end)) ++ more)) ++ request_end)) ++ set_end)) ++ end)
    ≡ (front ++ (set ++ (request ++ (attributes ++ list)))) ++ (targets ++ (list_end ++ (more ++ (request_end ++ (set_end ++ end)))))
regrouped front set request attributes list targets list_end more request_end set_end end = simp append_assoc

inner_text : (targets : List TargetValue) (more : List (List ℕ))
    → xml_text (request_marks targets more)
    ≡ xml_text (leaf CTX_OBJ_ATTRIBUTES.now [])
    ++ ((mark_text (opened CTX_OBJ_TARGETS.now) ++ (texts targets ++ mark_text (closed CTX_OBJ_TARGETS.now))) ++ xml_text (more_marks more))
inner_text targets more =
    let list : List Mark = element CTX_OBJ_TARGETS.now CTX_OBJ_TARGETS.now (flat_map target_marks targets) in
    flat_map-append mark_text (leaf CTX_OBJ_ATTRIBUTES.now []) (list ++ more_marks more)
    ∙ ap (λ t. xml_text (leaf CTX_OBJ_ATTRIBUTES.now []) ++ t) (flat_map-append mark_text list (more_marks more))
    ∙ ap (λ t. xml_text (leaf CTX_OBJ_ATTRIBUTES.now []) ++ (t ++ xml_text (more_marks more)))
    (element_text CTX_OBJ_TARGETS.now CTX_OBJ_TARGETS.now (flat_map target_marks targets))

root_text : (targets : List TargetValue) (more : List (List ℕ))
    → xml_text (reply_marks targets more)
    ≡ mark_text (opened CTX_OBJ_SET.now) ++ ((mark_text (opened CTX_OBJ.now) ++ (xml_text (request_marks targets more) ++ mark_text (closed CTX_OBJ.now))) ++ mark_text (closed CTX_OBJ_SET.now))
root_text targets more =
    element_text CTX_OBJ_SET.now CTX_OBJ_SET.now (element CTX_OBJ.now CTX_OBJ.now (request_marks targets more))
    ∙ ap (λ t. mark_text (opened CTX_OBJ_SET.now) ++ (t ++ mark_text (closed CTX_OBJ_SET.now))) (element_text CTX_OBJ.now CTX_OBJ.now (request_marks targets more))

pub reply_parts : (targets : List TargetValue) (more : List (List ℕ)) → reply_text targets more ≡ start_text ++ (texts targets ++ behind_text more)
unfolding start_text behind_text end_text
reply_parts targets more =
    ap (λ t. DECLARATION.now ++ (t ++ codes "\n")) (root_text targets more
    ∙ ap (λ t. mark_text (opened CTX_OBJ_SET.now) ++ ((mark_text (opened CTX_OBJ.now) ++ (t ++ mark_text (closed CTX_OBJ.now))) ++ mark_text (closed CTX_OBJ_SET.now)))
    (inner_text targets more))
    ∙ regrouped DECLARATION.now (mark_text (opened CTX_OBJ_SET.now)) (mark_text (opened CTX_OBJ.now)) (xml_text (leaf CTX_OBJ_ATTRIBUTES.now []))
    (mark_text (opened CTX_OBJ_TARGETS.now)) (texts targets) (mark_text (closed CTX_OBJ_TARGETS.now)) (xml_text (more_marks more)) (mark_text (closed CTX_OBJ.now))
    (mark_text (closed CTX_OBJ_SET.now)) (codes "\n")

-- they are written as an element, if there are any
pub none_written : {X : Type 0} (name_of : X → Name) (site : site_file.SiteValue) (names : List X) (old : List ℕ) → (length names == 0) ≡ true
    → old ≡ old ++ xml_text (more_marks (more_of site (map name_of names)))
unfolding more_marks
none_written {X} name_of site [] old none = sym (append-nil old)
none_written {X} name_of site (name ∷ names) old none = absurd (omega (arith, eqb-true (suc (length names)) 0 none))

pub more_written : {X : Type 0} (name_of : X → Name) (site : site_file.SiteValue) (names : List X) (old one two new : List ℕ) → (length names == 0) ≡ false
    → one ≡ old ++ mark_text (opened MORE_IN.now) → two ≡ one ++ xml_text (named_marks (more_of site (map name_of names)))
    → new ≡ two ++ mark_text (closed MORE_IN.now) → new ≡ old ++ xml_text (more_marks (more_of site (map name_of names)))
unfolding more_marks
more_written {X} name_of site [] old one two new some first second third = absurd (cc)
more_written {X} name_of site (name ∷ names) old one two new some first second third =
    element_written old one two new MORE_IN.now MORE_IN.now (named_marks (more_of site (map name_of (name ∷ names)))) first second third

grouped : (old start hits ways end : List ℕ) → (((old ++ start) ++ hits) ++ ways) ++ end ≡ old ++ (start ++ ((hits ++ ways) ++ end))
grouped old start hits ways end = simp append_assoc

-- the steps write the reply
pub reply_written : (old one two three new : List ℕ) (options : SfxOptions) (site : site_file.SiteValue) (tally : TallyValue) (cited : CitedTitleValue)
    → one ≡ old ++ start_text → two ≡ one ++ flat_map (hit_text options site) tally.top
    → three ≡ two ++ ways_text options (library_links site Shown (outcome_of tally) cited) → new ≡ three ++ behind_text (more_of site tally.partial)
    → new ≡ old ++ sfx_reply options site tally cited
unfolding sfx_reply
reply_written old one two three new options site tally cited first second third fourth =
    let links : List LibraryLinkValue = library_links site Shown (outcome_of tally) cited in
    let hits : List ℕ = flat_map (hit_text options site) tally.top in
    let ways : List ℕ = ways_text options links in
    let behind : List ℕ = behind_text (more_of site tally.partial) in
    fourth ∙ ap (λ t. t ++ behind) (third ∙ ap (λ t. t ++ ways) (second ∙ ap (λ t. t ++ hits) first))
    ∙ grouped old start_text hits ways behind
    ∙ ap (λ t. old ++ (start_text ++ ((t ++ ways) ++ behind))) (hits_written options site tally.top)
    ∙ ap (λ t. old ++ (start_text ++ ((texts (hit_targets options site tally.top) ++ t) ++ behind))) (either_way options.full_texts_only links)
    ∙ ap (λ t. old ++ (start_text ++ (t ++ behind))) (sym (texts_append (hit_targets options site tally.top) (link_targets options links)))
    ∙ ap (λ t. old ++ t) (sym (reply_parts (targets_of options site tally cited) (more_of site tally.partial)))

-- the same from what a tally returns
pub reply_steps : (old one two three new : List ℕ) (options : SfxOptions) (site : site_file.SiteValue) (tally : TallyValue) (cited : CitedTitleValue)
    (top : List ReleaseHitValue) (outcome : SearchOutcome) (partial : List Name) → top ≡ tally.top → outcome ≡ outcome_of tally → partial ≡ tally.partial
    → one ≡ old ++ start_text → two ≡ one ++ flat_map (hit_text options site) top
    → three ≡ two ++ ways_text options (library_links site Shown outcome cited) → new ≡ three ++ behind_text (more_of site partial)
    → new ≡ old ++ sfx_reply options site tally cited
reply_steps old one two three new options site tally cited top outcome partial same results names first second third fourth =
    reply_written old one two three new options site tally cited first
    (second ∙ ap (λ (hits : List ReleaseHitValue). one ++ flat_map (hit_text options site) hits) same)
    (third ∙ ap (λ (o : SearchOutcome). two ++ ways_text options (library_links site Shown o cited)) results)
    (fourth ∙ ap (λ (ns : List Name). three ++ behind_text (more_of site ns)) names)

nothing_behind : (old start close end : List ℕ) → ((old ++ start) ++ close) ++ end ≡ old ++ (start ++ ([] ++ (close ++ ([] ++ end))))
nothing_behind old start close end = simp append_assoc

pub nothing_written : (old one two new : List ℕ) → one ≡ old ++ start_text → two ≡ one ++ mark_text (closed CTX_OBJ_TARGETS.now) → new ≡ two ++ end_text
    → new ≡ old ++ no_targets
unfolding no_targets behind_text more_marks
nothing_written old one two new first second third =
    let close : List ℕ = mark_text (closed CTX_OBJ_TARGETS.now) in
    third ∙ ap (λ t. t ++ end_text) (second ∙ ap (λ t. t ++ close) first) ∙ nothing_behind old start_text close end_text
    ∙ ap (λ t. old ++ t) (sym (reply_parts [] []))
