-- A search finds the same at the places of a query's identifiers as in the rows that have them.
use Rattle.std.proofs.Common.{◌≡◌, ◌+◌, ◌-◌, ℕ, zero, suc, Bool, true, false, List, [], ◌∷◌, ◌++◌, Option, Some, None, refl, sym, ap, ◌∙◌, arith, length, map, append_assoc}
use Rattle.std.specs.Prelude.{◌≤◌, ◌&&◌, not, if◌then◌else◌, filter, nat_le, option_map, slice_get}
use Rattle.std.specs.List.{cons_option, enumerate_from, filter_map}
use Rattle.std.specs.Option.{option_and_then}
use Rattle.std.proofs.lemmas.Bool.Decides.{nat_tests}
use Rattle.std.proofs.lemmas.List.{take_all}
use Rattle.feed_answer.specs.Today.{TodayValue}
use Rattle.feed_kbart.specs.HoldingsValue.{HoldingsValue}
use Rattle.feed_kbart.specs.Identifiers.{kind}
use Rattle.feed_kbart.specs.Places.{place_by, places_by}
use Rattle.feed_kbart.specs.RowValue.{RowValue}
use Rattle.feed_names.specs.ReleaseName.{Name}
use Rattle.node_site.specs.Held.{may_hold}
use Rattle.node_site.specs.Site as site_file
use Rattle.node_site.proofs.HeldDays.{off_package}
use Rattle.feed_answer.specs.Answers.{answer_of, hit_by}
use Rattle.feed_answer.specs.Grades.{grade_as, has_named}
use Rattle.feed_answer.specs.HitValue.{HitValue}
use Rattle.feed_answer.specs.QueryValue.{QueryValue}
use Rattle.node_hits.specs.Hits.{ReleaseHitValue, days_asked, held_hits, is_held_dated, is_found, is_found_as, library_hits, release_hit}
use Rattle.node_hits.specs.Laws.{WholeIsOfAnswer}
use Rattle.node_hits.specs.Looks.{are_fitting, asked_places, fitting, found_in, hit_found, looks_at, looks_in, open_places, release_found, text_looks}
use Rattle.node_hits.specs.Searches.{SearchValue, compared, compared_as, is_dated, whole_titles}
use Rattle.node_hits.specs.declared.search.Scope.{Scope}
use Rattle.node_hits.specs.declared.search.Scope.TheVariants.{Hits, Dated, Others}
use Rattle.node_hits.specs.declared.shares.Shares.{Shares}

-- ---- the elements at the places that pass a test

pub at_seam : {X : Type 0} → (front : List X) (x : X) (xs : List X) (place : ℕ) → place ≡ length front → slice_get (front ++ x ∷ xs) place ≡ Some x
at_seam {X} [] x xs zero same = refl
at_seam {X} [] x xs (suc place) same = absurd (omega (arith, same))
at_seam {X} (y ∷ front) x xs zero same = absurd (omega (arith, same))
at_seam {X} (y ∷ front) x xs (suc place) same = at_seam front x xs place (omega (arith, same))

pub longer : {X : Type 0} → (front : List X) (x : X) → length (front ++ x ∷ []) ≡ length front + 1
longer {X} [] x = refl
longer {X} (y ∷ front) x = let rest = longer front x in omega (arith, rest)

placed_from : {B : Type 0} → (f : Option RowValue → B) (test : RowValue → Bool) (front rows : List RowValue) (base : ℕ) → base ≡ length front
    → map (λ place. f (slice_get (front ++ rows) place)) (filter_map (place_by test) (enumerate_from base rows)) ≡ map (λ row. f (Some row)) (filter test rows)
placed_from {B} f test front [] base same = refl
placed_from {B} f test front (row ∷ rows) base same =
    go (test row)
    (ap (λ (all : List RowValue). map (λ place. f (slice_get all place)) (filter_map (place_by test) (enumerate_from (base + 1) rows))) (sym (append_assoc front (row ∷ []) rows))
    ∙ placed_from f test (front ++ row ∷ []) rows (base + 1) (let more = longer front row in omega (arith, same, more)))
  where
    at : ℕ → B
    at place = f (slice_get (front ++ row ∷ rows) place)

    go : (b : Bool) → map at (filter_map (place_by test) (enumerate_from (base + 1) rows)) ≡ map (λ row. f (Some row)) (filter test rows)
        → map at (cons_option (if b then Some base else None) (filter_map (place_by test) (enumerate_from (base + 1) rows)))
        ≡ map (λ row. f (Some row)) (if b then row ∷ filter test rows else filter test rows)
    go true rest = ap (λ l. at base ∷ l) rest ∙ ap (λ o. f o ∷ map (λ row. f (Some row)) (filter test rows)) (at_seam front row rows base same)
    go false rest = rest

-- ---- the hits in all rows

pub same_asked : (scope : Scope) (query : QueryValue) (row : RowValue) → has_named (compared_as scope query) row ≡ has_named query row
same_asked Hits query row = refl
same_asked Dated query row = refl
same_asked Others query row = refl

unasked : (search : SearchValue) (row : RowValue) → has_named search.query row ≡ false → hit_by (compared search) row ≡ None
unasked search row miss =
    ap (λ b. option_map (λ grade. record { row = row; grade = grade }) (if b then grade_as (kind row.identifiers) (compared search) row else None))
    (same_asked search.scope search.query row ∙ miss)

module _ (site : site_file.SiteValue) (today : TodayValue) (search : SearchValue) (name : Name) where
  abbrev pub look : RowValue → Option ReleaseHitValue
  look row = hit_found site today search name (hit_by (compared search) row)

  pub looks_placed : (rows : List RowValue) → looks_at site today search name rows (asked_places search.query rows) ≡ map look (filter (has_named search.query) rows)
  unfolding places_by
  looks_placed rows =
      placed_from (λ row. hit_found site today search name (option_and_then (hit_by (compared search)) row)) (has_named search.query) [] rows 0 refl

  pub in_rows : (rows : List RowValue) → found_in (map look (filter (has_named search.query) rows)) ≡ library_hits site today search name (filter_map (hit_by (compared search)) rows)
  in_rows [] = refl
  in_rows (row ∷ rows) = by_asked (has_named search.query row) refl (in_rows rows)
    where
      others : List RowValue
      others = filter (has_named search.query) rows

      by_found : (b : Bool) (hit : HitValue) → found_in (map look others) ≡ library_hits site today search name (filter_map (hit_by (compared search)) rows)
          → cons_option (if b then Some (release_hit site today search name hit) else None) (found_in (map look others))
          ≡ map (release_hit site today search name) (if b then hit ∷ filter (is_found site search name) (filter_map (hit_by (compared search)) rows)
          else filter (is_found site search name) (filter_map (hit_by (compared search)) rows))
      by_found true hit rest = ap (λ l. release_hit site today search name hit ∷ l) rest
      by_found false hit rest = rest

      by_hit : (o : Option HitValue) → found_in (map look others) ≡ library_hits site today search name (filter_map (hit_by (compared search)) rows)
          → cons_option (hit_found site today search name o) (found_in (map look others))
          ≡ library_hits site today search name (cons_option o (filter_map (hit_by (compared search)) rows))
      by_hit None rest = rest
      by_hit (Some hit) rest = by_found (is_found site search name hit) hit rest

      by_asked : (b : Bool) → has_named search.query row ≡ b → found_in (map look others) ≡ library_hits site today search name (filter_map (hit_by (compared search)) rows)
          → found_in (map look (if b then row ∷ others else others)) ≡ library_hits site today search name (filter_map (hit_by (compared search)) (row ∷ rows))
      by_asked true is rest = by_hit (hit_by (compared search) row) rest
      by_asked false is rest = rest ∙ ap (λ o. library_hits site today search name (cons_option o (filter_map (hit_by (compared search)) rows))) (sym (unasked search row is))

  -- ---- the library has nothing of the package

  none_found : may_hold site name.package_name ≡ false → (scope : Scope) (hit : HitValue) → is_found_as scope site search.query name hit ≡ false
  none_found off Hits hit =
      off_package site name.package_name hit.row.title_id hit.row.first_day hit.row.last_day (days_asked (kind hit.row.identifiers) search.query.days) off
  none_found off Dated hit =
      ap (λ b. b && is_dated search.query hit.row)
      (off_package site name.package_name hit.row.title_id hit.row.first_day hit.row.last_day (days_asked (kind hit.row.identifiers) search.query.days) off)
  none_found off Others hit =
      ap (λ b. b && not (is_held_dated site search.query name hit))
      (off_package site name.package_name hit.row.title_id hit.row.first_day hit.row.last_day (days_asked (kind hit.row.identifiers) (whole_titles search.query).days) off)

  none_held : may_hold site name.package_name ≡ false → (hits : List HitValue) → held_hits site search name hits ≡ []
  none_held off [] = refl
  none_held off (hit ∷ hits) =
      ap (λ b. if b then hit ∷ held_hits site search name hits else held_hits site search name hits) (none_found off search.scope hit) ∙ none_held off hits

  -- ---- the hits that fit

  fitting_all : (left : ℕ) (looks : List (Option ReleaseHitValue)) → are_fitting left looks ≡ true → fitting left looks ≡ found_in looks
  fitting_all left [] fits = refl
  fitting_all left (None ∷ more) fits = fitting_all left more fits
  fitting_all left (Some found ∷ more) fits = go (nat_le (text_looks found.hit.row) left) fits (fitting_all (left - text_looks found.hit.row) more)
    where
      go : (b : Bool) → (if b then are_fitting (left - text_looks found.hit.row) more else false) ≡ true
          → (are_fitting (left - text_looks found.hit.row) more ≡ true → fitting (left - text_looks found.hit.row) more ≡ found_in more)
          → (if b then found ∷ fitting (left - text_looks found.hit.row) more else fitting left more) ≡ found ∷ found_in more
      go true fits rest = ap (λ l. found ∷ l) (rest fits)
      go false fits rest = absurd (cc)

  both : (a b : Bool) → (a && b) ≡ true → (a ≡ true) × (b ≡ true)
  both true b e = (refl, e)
  both false b e = absurd (cc)

  pub of_answer : (shares : Shares) (holdings : HoldingsValue) → (release_found shares site today search name holdings.rows).is_whole ≡ true
      → (release_found shares site today search name holdings.rows).hits ≡ library_hits site today search name (answer_of holdings (compared search))
  unfolding answer_of
  of_answer shares holdings whole =
      let rows = holdings.rows in
      let parts = both (nat_le (length (open_places site name search.query rows)) shares.rows) (are_fitting shares.texts (looks_in shares site today search name rows)) whole in
      let few : length (open_places site name search.query rows) ≤ shares.rows = (let test = parts.0 in grind (arith, nat_tests, test)) in
      fitting_all shares.texts (looks_in shares site today search name rows) parts.1
      ∙ ap (λ places. found_in (looks_at site today search name rows places)) (take_all shares.rows (open_places site name search.query rows) few)
      ∙ go (may_hold site name.package_name) refl
    where
      go : (b : Bool) → may_hold site name.package_name ≡ b
          → found_in (looks_at site today search name holdings.rows (if b then asked_places search.query holdings.rows else []))
          ≡ library_hits site today search name (filter_map (hit_by (compared search)) holdings.rows)
      go true is = ap found_in (looks_placed holdings.rows) ∙ in_rows holdings.rows
      go false is = ap (map (release_hit site today search name)) (sym (none_held is (filter_map (hit_by (compared search)) holdings.rows)))

pub whole_is_of_answer : WholeIsOfAnswer
whole_is_of_answer shares site today search name holdings whole = of_answer site today search name shares holdings whole
