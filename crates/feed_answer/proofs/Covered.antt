-- The days that a row covers, and those that are asked for.
use Rattle.std.proofs.Common.{◌≡◌, ◌&&◌, Bool, true, false, if◌then◌else◌, Option, Some, None, refl, sym, ap, ◌∙◌, arith}
use Rattle.std.specs.Prelude.{ℤ, ◌≤ℤ◌, int_le}
use Rattle.std.proofs.lemmas.Int.{ints}
use Rattle.feed_dates.specs.declared.day_range.DayRange.{DayRange}
use Rattle.feed_answer.specs.Grades.{has_begun_by, has_not_ended_before, tested_days}
use Rattle.feed_answer.specs.Laws.{IsAsked, IsCovered, AreGradedByDays}
use Rattle.feed_answer.specs.declared.grade.Grade.{Grade}
use Rattle.feed_answer.specs.declared.grade.Grade.TheVariants.{Overlap, Inside}

le_yes : (a b : ℤ) → int_le a b ≡ true → a ≤ℤ b
le_yes a b e = grind (arith, ints)

le_no : (a b : ℤ) → int_le a b ≡ false → b ≤ℤ a
le_no a b e = grind (arith, ints)

yes_le : (a b : ℤ) → a ≤ℤ b → int_le a b ≡ true
yes_le a b h = grind (arith, ints)

le_itself : (a : ℤ) → a ≤ℤ a
le_itself a = omega (arith, ints)

le_through : (a b c : ℤ) → a ≤ℤ b → b ≤ℤ c → a ≤ℤ c
le_through a b c h k = omega (arith, ints)

-- coverage that has begun has begun later too, and what lasts to a day lasts to earlier ones
begun_later : (first : Option ℤ) (a b : ℤ) → a ≤ℤ b → has_begun_by first a ≡ true → has_begun_by first b ≡ true
begun_later None a b h e = refl
begun_later (Some f) a b h e = yes_le f b (le_through f a b (le_yes f a e) h)

lasts_earlier : (last : Option ℤ) (a b : ℤ) → a ≤ℤ b → has_not_ended_before last b ≡ true → has_not_ended_before last a ≡ true
lasts_earlier None a b h e = refl
lasts_earlier (Some l) a b h e = yes_le a l (le_through a b l h (le_yes b l e))

both_true : (a b : Bool) → a ≡ true → b ≡ true → (a && b) ≡ true
both_true a b e f = rw (e, f) refl

first_true : (a b : Bool) → (a && b) ≡ true → a ≡ true
first_true true b e = refl
first_true false b e = e

second_true : (a b : Bool) → (a && b) ≡ true → b ≡ true
second_true true b e = e
second_true false b e = absurd (cc)

true_is_not_false : ¬ (true ≡ false)
true_is_not_false e = cc

-- the grade by whether the days meet, and whether the one's lie in the other's
abbrev graded : Bool → Bool → Option Grade
graded meets lies = if meets then Some (if lies then Inside else Overlap) else None

none_apart : (meets lies : Bool) → graded meets lies ≡ None → meets ≡ false
none_apart true lies e = absurd (cc)
none_apart false lies e = refl

inside_lies : (meets lies : Bool) → graded meets lies ≡ Some Inside → lies ≡ true
inside_lies true true e = refl
inside_lies true false e = absurd (cc)
inside_lies false lies e = absurd (cc)

-- a day of both: the days meet
meet_at : (first last : Option ℤ) (days : DayRange) (day : ℤ) → IsAsked days day → IsCovered first last day
    → (has_begun_by first days.last && has_not_ended_before last days.first) ≡ true
meet_at first last days day asked covered =
    both_true _ _ (begun_later first day days.last asked.not_after covered.begun) (lasts_earlier last days.first day asked.not_before covered.lasting)

-- where they meet, a day of both: the later of the two first days
met : (first last : Option ℤ) (days : DayRange) (some : ℤ) → IsCovered first last some → days.first ≤ℤ days.last
    → has_begun_by first days.last ≡ true → has_not_ended_before last days.first ≡ true
    → (day : ℤ) × IsAsked days day × IsCovered first last day
met None last days some covered ordered begun lasting =
    (days.first, record { not_before = le_itself days.first; not_after = ordered }, record { begun = refl; lasting = lasting })
met (Some f) last days some covered ordered begun lasting =
    elim (int_le f days.first) as (λ b. int_le f days.first ≡ b → (day : ℤ) × IsAsked days day × IsCovered (Some f) last day) [
      | true ↦ λ e. (days.first, record { not_before = le_itself days.first; not_after = ordered }, record { begun = e; lasting = lasting })
      | false ↦ λ e. (
        f,
        record { not_before = le_no f days.first e; not_after = le_yes f days.last begun },
        record { begun = yes_le f f (le_itself f); lasting = lasts_earlier last f some (le_yes f some covered.begun) covered.lasting },
      )
    ] refl

-- no day of both: they do not meet
never_met : (first last : Option ℤ) (days : DayRange) (some : ℤ) → IsCovered first last some → days.first ≤ℤ days.last
    → ((day : ℤ) → IsAsked days day → ¬ (IsCovered first last day)) → (has_begun_by first days.last && has_not_ended_before last days.first) ≡ false
never_met first last days some covered ordered none =
    elim (has_begun_by first days.last && has_not_ended_before last days.first)
    as (λ b. (has_begun_by first days.last && has_not_ended_before last days.first) ≡ b → b ≡ false) [
      | true ↦ λ e.
          let day = met first last days some covered ordered (first_true _ _ e) (second_true (has_begun_by first days.last) _ e) in
          absurd (none day.0 day.1 day.2)
      | false ↦ λ e. refl
    ] refl

-- what lies in coverage is covered
lies_covered : (first last : Option ℤ) (days : DayRange) (day : ℤ)
    → (has_begun_by first days.first && has_not_ended_before last days.last) ≡ true → IsAsked days day → IsCovered first last day
lies_covered first last days day lies asked = record {
  begun = begun_later first days.first day asked.not_before (first_true _ _ lies);
  lasting = lasts_earlier last day days.last asked.not_after (second_true (has_begun_by first days.first) _ lies);
}

all_inside : (first last : Option ℤ) (days : DayRange) → days.first ≤ℤ days.last
    → ((day : ℤ) → IsAsked days day → IsCovered first last day) → tested_days first last days ≡ Some Inside
all_inside first last days ordered each =
    let front : IsAsked days days.first = record { not_before = le_itself days.first; not_after = ordered } in
    let back : IsAsked days days.last = record { not_before = ordered; not_after = le_itself days.last } in
    let meets : (has_begun_by first days.last && has_not_ended_before last days.first) ≡ true = meet_at first last days days.first front (each days.first front) in
    let lies : (has_begun_by first days.first && has_not_ended_before last days.last) ≡ true =
    both_true _ _ (each days.first front).begun (each days.last back).lasting in
    rw (meets, lies) refl

pub graded_by_days : (first last : Option ℤ) (days : DayRange) (some : ℤ) → IsCovered first last some → days.first ≤ℤ days.last
    → AreGradedByDays first last days
graded_by_days first last days some covered ordered = record {
  apart = (
    λ none day asked here. absurd (true_is_not_false (sym (meet_at first last days day asked here) ∙ none_apart _ _ none)),
    λ none. ap (λ b. graded b (has_begun_by first days.first && has_not_ended_before last days.last)) (never_met first last days some covered ordered none),
  );
  inside = (
    λ inside day asked. lies_covered first last days day (inside_lies (has_begun_by first days.last && has_not_ended_before last days.first) _ inside) asked,
    all_inside first last days ordered,
  );
}
