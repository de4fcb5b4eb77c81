-- The rows at the places of a query's identifiers: each has one of the identifiers.
use Rattle.std.proofs.Common.{◌≡◌, ◌+◌, ℕ, Bool, true, false, List, [], ◌∷◌, ◌++◌, Option, Some, None, refl, sym, ap, ◌∙◌, subst, append_assoc, arith, length, take}
use Rattle.std.specs.Prelude.{if◌then◌else◌, option_map, slice_get}
use Rattle.std.specs.List.{AllPass, cons_option, enumerate_from, filter_map}
use Rattle.std.specs.Option.{option_and_then, option_map_or}
use Rattle.std.proofs.lemmas.List.Elements.{All-cons, All-nil, All-take}
use Rattle.feed_kbart.specs.Identifiers.{kind}
use Rattle.feed_kbart.specs.Places.{place_by, places_by}
use Rattle.feed_kbart.specs.RowValue.{RowValue}
use Rattle.feed_kbart.specs.declared.identifiers.Kind.{Kind}
use Rattle.feed_kbart.specs.declared.identifiers.Kind.TheVariants.{Serial, Book}
use Rattle.feed_answer.specs.Answers.{hit_by}
use Rattle.feed_answer.specs.Places.{hit_at}
use Rattle.feed_answer.specs.QueryValue.{QueryValue}
use Rattle.feed_answer.specs.declared.grade.Grade.TheVariants.{Untested}
use Rattle.node_hits.specs.Looks.{asked_places}
use Rattle.feed_answer.specs.Grades.{grade_as, has_named}
use Rattle.node_hits.specs.Searches.{SearchValue, asked_hit_at, asked_hit_by, compared, is_asked_at, whole_titles}
use Rattle.node_hits.proofs.LooksPlaced.{at_seam, longer, same_asked}

-- ---- the grade of a row that has one of the identifiers

asked_by : (search : SearchValue) (row : RowValue) → has_named search.query row ≡ true → asked_hit_by (compared search) row ≡ hit_by (compared search) row
asked_by search row asked =
    sym (ap (λ b. option_map (λ grade. record { row = row; grade = grade }) (if b then grade_as (kind row.identifiers) (compared search) row else None))
    (same_asked search.scope search.query row ∙ asked))

untested_as : (of : Kind) (query : QueryValue) (row : RowValue) → grade_as of (whole_titles query) row ≡ Some Untested
untested_as Serial query row = refl
untested_as Book query row = refl

pub whole_at : (query : QueryValue) (rows : List RowValue) (place : ℕ) (row : RowValue) → slice_get rows place ≡ Some row
    → Some (record { row = row; grade = Untested }) ≡ asked_hit_at (whole_titles query) rows place
whole_at query rows place row is =
    ap (option_map (λ grade. record { row = row; grade = grade })) (sym (untested_as (kind row.identifiers) query row))
    ∙ ap (option_and_then (asked_hit_by (whole_titles query))) (sym is)

pub asked_at : (search : SearchValue) (rows : List RowValue) (place : ℕ) → is_asked_at search.query rows place ≡ true
    → asked_hit_at (compared search) rows place ≡ hit_at (compared search) rows place
asked_at search rows place asked = go (slice_get rows place) asked
  where
    go : (o : Option RowValue) → option_map_or (has_named search.query) o true ≡ true → option_and_then (asked_hit_by (compared search)) o ≡ option_and_then (hit_by (compared search)) o
    go None asked = refl
    go (Some row) asked = asked_by search row asked

-- ---- the places of rows that pass a test

abbrev passes_at : (RowValue → Bool) → List RowValue → ℕ → Bool
passes_at test rows place = option_map_or test (slice_get rows place) true

pass_from : (test : RowValue → Bool) (front rows : List RowValue) (base : ℕ) → base ≡ length front
    → AllPass (passes_at test (front ++ rows)) (filter_map (place_by test) (enumerate_from base rows))
pass_from test front [] base same = All-nil _
pass_from test front (row ∷ rows) base same =
    go (test row) refl
    (subst (λ (all : List RowValue). AllPass (passes_at test all) (filter_map (place_by test) (enumerate_from (base + 1) rows))) (append_assoc front (row ∷ []) rows)
    (pass_from test (front ++ row ∷ []) rows (base + 1) (let more = longer front row in omega (arith, same, more))))
  where
    go : (b : Bool) → test row ≡ b → AllPass (passes_at test (front ++ row ∷ rows)) (filter_map (place_by test) (enumerate_from (base + 1) rows))
        → AllPass (passes_at test (front ++ row ∷ rows)) (cons_option (if b then Some base else None) (filter_map (place_by test) (enumerate_from (base + 1) rows)))
    go true is rest =
        All-cons (λ place. passes_at test (front ++ row ∷ rows) place ≡ true) base (filter_map (place_by test) (enumerate_from (base + 1) rows))
        (ap (λ o. option_map_or test o true) (at_seam front row rows base same) ∙ is) rest
    go false is rest = rest

pub all_pass : (test : RowValue → Bool) (rows : List RowValue) → AllPass (passes_at test rows) (places_by test rows)
unfolding places_by
all_pass test rows = pass_from test [] rows 0 refl
