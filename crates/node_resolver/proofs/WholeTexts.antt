-- A response that has all hits and shows them has the answers of the releases as they are.
use Rattle.std.proofs.Common.{◌≡◌, ◌-◌, ℕ, suc, List, [], ◌∷◌, ◌++◌, Bool, true, false, refl, sym, ap, ◌∙◌, arith, length, drop, map, subst, append_assoc}
use Rattle.std.specs.Prelude.{if◌then◌else◌, nat_lt, ◌&&◌, ◌==◌}
use Rattle.std.specs.List.{flat_map, list_all}
use Rattle.std.proofs.lemmas.List.{append-nil}
use Rattle.feed_names.specs.ReleaseName.{Name, text_of}
use Rattle.feed_answer.specs.HitValue.{HitValue}
use Rattle.feed_answer.specs.Answers.{answer_of, answer_text, hit_line}
use Rattle.feed_answer.specs.Today.{TodayValue}
use Rattle.node_site.specs.Site as site_file
use Rattle.node_hits.specs.Searches.{SearchValue, compared}
use Rattle.feed_releases.specs.Actives.{ActiveValue}
use Rattle.node_hits.specs.Hits.{ReleaseHitValue, held_hits, release_hit}
use Rattle.node_hits.specs.HitsText.{release_hit_line, release_head_line, release_text}
use Rattle.node_hits.specs.Looks.{FoundValue}
use Rattle.node_hits.specs.Tallies.{counted, partial_name, text_size, first_within, shown_limit, text_limit, tally_of}
use Rattle.node_hits.specs.declared.shares.Shares.{Shares}
use Rattle.node_hits.proofs.LooksPlaced.{of_answer}
use Rattle.node_resolver.specs.Answers.{body_by, found_by, release_in, shares_in, sited_by, texts_behind}
use Rattle.node_resolver.specs.Laws.{written_answer, WholeTextIsWritten}

-- all hits of the list are shown
abbrev AllShown : ℕ → ℕ → List ReleaseHitValue → Type 0
AllShown places bytes hits = first_within places bytes hits ≡ hits

tails_same : {A : Type 0} → (x y : A) (xs ys : List A) → x ∷ xs ≡ y ∷ ys → xs ≡ ys
tails_same {A} x y xs ys e = ap (drop 1) e

shown_cases : {A : Type 0} → (b : Bool) (x : A) (xs ys : List A) → (if b then x ∷ xs else []) ≡ x ∷ ys → (b ≡ true) × (xs ≡ ys)
shown_cases {A} true x xs ys e = (refl, tails_same x x xs ys e)
shown_cases {A} false x xs ys e = absurd (cc)

-- of hits that are all shown the first ones are
prefix_shown : (places bytes : ℕ) (hits more : List ReleaseHitValue) → AllShown places bytes (hits ++ more) → AllShown places bytes hits
prefix_shown places bytes [] more all = refl
prefix_shown places bytes (found ∷ hits) more all =
    let parts = shown_cases (nat_lt 0 places && nat_lt 0 (bytes - text_size found)) found
    (first_within (places - 1) (bytes - text_size found) (hits ++ more)) (hits ++ more) all in
    rw (parts.0) (ap (λ l. found ∷ l) (prefix_shown (places - 1) (bytes - text_size found) hits more parts.1))

abbrev all_whole : List FoundValue → Bool
all_whole founds = list_all (λ release. release.is_whole) founds

-- no release has more, and all hits are shown
record IsWhole (founds : List FoundValue) : Type 0 where
  shows : first_within shown_limit text_limit (counted founds) ≡ counted founds
  none : flat_map partial_name founds ≡ []

both : (a b : Bool) → (a && b) ≡ true → (a ≡ true) × (b ≡ true)
both true b e = (refl, e)
both false b e = absurd (cc)

none_partial : (founds : List FoundValue) → all_whole founds ≡ true → flat_map partial_name founds ≡ []
none_partial [] whole = refl
none_partial (found ∷ founds) whole =
    let parts = both found.is_whole (all_whole founds) whole in
    ap (λ b. (if b then [] else found.name ∷ []) ++ flat_map partial_name founds) parts.0 ∙ none_partial founds parts.1

front_all : (founds more : List FoundValue) → all_whole (founds ++ more) ≡ true → all_whole founds ≡ true
front_all [] more whole = refl
front_all (found ∷ founds) more whole =
    let parts = both found.is_whole (all_whole (founds ++ more)) whole in
    ap (λ b. b && all_whole founds) parts.0 ∙ front_all founds more parts.1

back_all : (founds more : List FoundValue) → all_whole (founds ++ more) ≡ true → all_whole more ≡ true
back_all [] more whole = whole
back_all (found ∷ founds) more whole = back_all founds more (both found.is_whole (all_whole (founds ++ more)) whole).1

counted_append : (founds more : List FoundValue) → counted (founds ++ more) ≡ counted founds ++ counted more
counted_append [] more = refl
counted_append (found ∷ founds) more = ap (λ l. found.hits ++ l) (counted_append founds more) ∙ sym (append_assoc found.hits (counted founds) (counted more))

-- the lines of a release
lines_are : (site : site_file.SiteValue) (today : TodayValue) (search : SearchValue) (name : Name) (hits : List HitValue)
    → flat_map release_hit_line (map (release_hit site today search name) hits) ≡ flat_map hit_line hits
lines_are site today search name [] = refl
lines_are site today search name (hit ∷ hits) = ap (λ t. hit_line hit ++ t) (lines_are site today search name hits)

length_map : (site : site_file.SiteValue) (today : TodayValue) (search : SearchValue) (name : Name) (hits : List HitValue) → length (map (release_hit site today search name) hits) ≡ length hits
length_map site today search name [] = refl
length_map site today search name (hit ∷ hits) = ap suc (length_map site today search name hits)

drop_front : {A : Type 0} → (xs ys : List A) → drop (length xs) (xs ++ ys) ≡ ys
drop_front {A} [] ys = refl
drop_front {A} (x ∷ xs) ys = drop_front xs ys

length_append : {A : Type 0} → (xs ys : List A) → length (xs ++ ys) - length xs ≡ length ys
length_append {A} [] ys = omega arith
length_append {A} (x ∷ xs) ys = let less = length_append xs ys in omega (arith, less)

release_is : (site : site_file.SiteValue) (today : TodayValue) (search : SearchValue) (earlier : List FoundValue) (found : FoundValue) (name : Name) (hits : List HitValue)
    → found.hits ≡ map (release_hit site today search name) hits → IsWhole earlier → IsWhole (earlier ++ found ∷ [])
    → release_text (tally_of earlier) (tally_of (earlier ++ found ∷ [])) name ≡ answer_text (text_of name) hits
unfolding release_text answer_text
release_is site today search earlier found name hits same before after =
    let own = map (release_hit site today search name) hits in
    let old = counted earlier in
    let both_of = earlier ++ found ∷ [] in
    let joint : counted both_of ≡ old ++ own = counted_append earlier (found ∷ []) ∙ ap (λ l. old ++ l) (append-nil found.hits ∙ same) in
    let head = text_of name in
    let lines = flat_map release_hit_line (drop (length (tally_of earlier).shown) (tally_of both_of).shown) in
    ap (λ (l : List Name). release_head_line head (length (counted both_of) - length old) (length l == length (flat_map partial_name earlier)) ++ lines) after.none
    ∙ ap (λ (l : List Name). release_head_line head (length (counted both_of) - length old) (0 == length l) ++ lines) before.none
    ∙ ap (λ l. release_head_line head (length l - length old) true ++ lines) joint
    ∙ ap (λ n. release_head_line head n true ++ lines) (length_append old own ∙ length_map site today search name hits)
    ∙ ap (λ l. release_head_line head (length hits) true ++ flat_map release_hit_line (drop (length l) (tally_of both_of).shown)) before.shows
    ∙ ap (λ l. release_head_line head (length hits) true ++ flat_map release_hit_line (drop (length old) l)) (after.shows ∙ joint)
    ∙ ap (λ l. release_head_line head (length hits) true ++ flat_map release_hit_line l) (drop_front old own)
    ∙ ap (λ t. release_head_line head (length hits) true ++ t) (lines_are site today search name hits)

-- the first releases of some that all have no more, and whose hits are all shown
front_whole : (founds more : List FoundValue) → all_whole (founds ++ more) ≡ true → AllShown shown_limit text_limit (counted (founds ++ more)) → IsWhole founds
front_whole founds more whole all = record {
  shows = prefix_shown shown_limit text_limit (counted founds) (counted more) (subst (AllShown shown_limit text_limit) (counted_append founds more) all);
  none = none_partial founds (front_all founds more whole);
}

texts_whole : (shares : Shares) (site : site_file.SiteValue) (today : TodayValue) (search : SearchValue) (earlier : List FoundValue) (actives : List ActiveValue)
    → all_whole (earlier ++ found_by shares search (sited_by site today actives)) ≡ true
    → AllShown shown_limit text_limit (counted (earlier ++ found_by shares search (sited_by site today actives)))
    → texts_behind earlier (found_by shares search (sited_by site today actives)) ≡ flat_map (written_answer site search) actives
texts_whole shares site today search earlier [] whole all = refl
texts_whole shares site today search earlier (active ∷ actives) whole all =
    let own : FoundValue = release_in shares site today search active in
    let rest = found_by shares search (sited_by site today actives) in
    let joint : earlier ++ (own ∷ rest) ≡ (earlier ++ own ∷ []) ++ rest = sym (append_assoc earlier (own ∷ []) rest) in
    let each : all_whole ((earlier ++ own ∷ []) ++ rest) ≡ true = rw (← joint) whole in
    let shown : AllShown shown_limit text_limit (counted ((earlier ++ own ∷ []) ++ rest)) = rw (← joint) all in
    let mine = (both own.is_whole (all_whole rest) (back_all earlier (own ∷ rest) whole)).0 in
    ap (λ t. t ++ texts_behind (earlier ++ own ∷ []) rest)
    (release_is site today search earlier own active.name (held_hits site search active.name (answer_of active.holdings (compared search)))
    (of_answer site today search active.name shares active.holdings mine) (front_whole earlier (own ∷ rest) whole all) (front_whole (earlier ++ own ∷ []) rest each shown))
    ∙ ap (λ t. written_answer site search active ++ t) (texts_whole shares site today search (earlier ++ own ∷ []) actives each shown)

pub whole_text : WholeTextIsWritten
unfolding body_by
whole_text text search actives whole all = texts_whole (shares_in search actives) actives.library actives.today search [] actives.actives whole all
