-- The days that are open, one by one, and what an availability says of them.
use Rattle.std.proofs.Common.{◌≡◌, ℤ, pos, ◌≤ℤ◌, ◌<ℤ◌, ◌-ℤ◌, int_le, Bool, true, false, cond, Option, Some, None, refl, arith}
use Rattle.std.specs.Prelude.{◌&&◌, ◌↔◌, IfSome, option_map}
use Rattle.std.specs.Option.{option_map_or}
use Rattle.std.proofs.lemmas.Int.{ints, int_max_is, int_min_is}
use Rattle.jiff_core.proofs.SignedLemmas.{signed_arith}
use Rattle.feed_dates.specs.declared.day_range.DayRange.{DayRange}
use Rattle.feed_answer.specs.Today.{TodayValue}
use Rattle.feed_answer.specs.Embargo.{later, earlier, start, eve, open_days, HasDay, IsOpen}
use Rattle.feed_answer.specs.Availability.{begins_by, lasts_to, has_days, shares_day, has_all, availability_in, IsAsked, TellsOf}
use Rattle.feed_answer.specs.EmbargoLaws.{OpenDaysAreOpen, AvailabilityTellsOfDays}
use Rattle.feed_answer.specs.declared.wall.Span.{Span}
use Rattle.feed_answer.specs.declared.embargo.OpenDays.{OpenDays}
use Rattle.feed_answer.specs.declared.availability.Availability.{Availability}
use Rattle.feed_answer.specs.declared.availability.Availability.TheVariants.{Available, Partly, NotCompared, Embargoed}

-- a day is not before a first one, and not after a last one
abbrev From : Option ℤ → ℤ → Type 0
From first day = IfSome first (λ first. first ≤ℤ day)

abbrev To : Option ℤ → ℤ → Type 0
To last day = IfSome last (λ last. day ≤ℤ last)

later_from : (one other : Option ℤ) (day : ℤ) → From (later one other) day → From one day × From other day
later_from None other day h = (tt, h)
later_from (Some one) None day h = (h, tt)
later_from (Some one) (Some other) day h = (omega (arith, ints, int_max_is one other, h), omega (arith, ints, int_max_is one other, h))

from_later : (one other : Option ℤ) (day : ℤ) → From one day → From other day → From (later one other) day
from_later None other day g h = h
from_later (Some one) None day g h = g
from_later (Some one) (Some other) day g h = omega (arith, ints, int_max_is one other, g, h)

earlier_to : (one other : Option ℤ) (day : ℤ) → To (earlier one other) day → To one day × To other day
earlier_to None other day h = (tt, h)
earlier_to (Some one) None day h = (h, tt)
earlier_to (Some one) (Some other) day h = (omega (arith, ints, int_min_is one other, h), omega (arith, ints, int_min_is one other, h))

to_earlier : (one other : Option ℤ) (day : ℤ) → To one day → To other day → To (earlier one other) day
to_earlier None other day g h = h
to_earlier (Some one) None day g h = g
to_earlier (Some one) (Some other) day g h = omega (arith, ints, int_min_is one other, g, h)

from_start : (today : TodayValue) (begins : Option Span) (day : ℤ)
    → From (option_map (start today) begins) day ↔ IfSome begins (λ span. start today span ≤ℤ day)
from_start today None day = (λ h. h, λ h. h)
from_start today (Some span) day = (λ h. h, λ h. h)

to_eve : (today : TodayValue) (ends : Option Span) (day : ℤ)
    → To (option_map (eve today) ends) day ↔ IfSome ends (λ span. day <ℤ start today span)
to_eve today None day = (λ h. h, λ h. h)
to_eve today (Some span) day = (λ h. before (start today span) h, λ h. until (start today span) h)
  where
    before : (s : ℤ) → day ≤ℤ (s -ℤ pos 1) → day <ℤ s
    before s h = omega (arith, ints, h)

    until : (s : ℤ) → day <ℤ s → day ≤ℤ (s -ℤ pos 1)
    until s h = omega (arith, ints, h)

-- the open days are those that are open
pub opened_is : OpenDaysAreOpen
opened_is today embargo first last day = (
  λ h.
      let from = later_from first (option_map (start today) embargo.begins) day h.from in
      let to = earlier_to last (option_map (eve today) embargo.ends) day h.to in
      record {
        from = from.0;
        to = to.0;
        begun = (from_start today embargo.begins day).0 from.1;
        ended = (to_eve today embargo.ends day).0 to.1;
      },
  λ h. record {
    from = from_later first (option_map (start today) embargo.begins) day h.from ((from_start today embargo.begins day).1 h.begun);
    to = to_earlier last (option_map (eve today) embargo.ends) day h.to ((to_eve today embargo.ends day).1 h.ended);
  },
)

-- tests of the ends
from_test : (first : Option ℤ) (low day : ℤ) → begins_by first low ≡ true → low ≤ℤ day → From first day
from_test None low day test h = tt
from_test (Some first) low day test h = omega (arith, signed_arith, test, h)

to_test : (last : Option ℤ) (day high : ℤ) → lasts_to last high ≡ true → day ≤ℤ high → To last day
to_test None day high test h = tt
to_test (Some last) day high test h = omega (arith, signed_arith, test, h)

le_test : (x y : ℤ) → x ≤ℤ y → int_le x y ≡ true
le_test x y h = go (int_le x y) refl
  where
    go : (b : Bool) → int_le x y ≡ b → b ≡ true
    go true test = refl
    go false test = absurd (omega (arith, signed_arith, test, h))

test_from : (first : Option ℤ) (day high : ℤ) → From first day → day ≤ℤ high → begins_by first high ≡ true
test_from None day high g h = refl
test_from (Some first) day high g h = le_test first high (omega (arith, signed_arith, g, h))

test_to : (last : Option ℤ) (low day : ℤ) → To last day → low ≤ℤ day → lasts_to last low ≡ true
test_to None low day g h = refl
test_to (Some last) low day g h = le_test low last (omega (arith, signed_arith, g, h))

test_days : (first last : Option ℤ) (day : ℤ) → From first day → To last day → option_map_or (lasts_to last) first true ≡ true
test_days None last day g h = refl
test_days (Some first) last day g h = test_to last first day h g

both_true : (s t : Bool) → (s && t) ≡ true → (s ≡ true) × (t ≡ true)
both_true true t h = (refl, h)
both_true false t h = absurd (cc)

-- with a day in both, the tests pass
shares_by : (opened : OpenDays) (days : DayRange) (day : ℤ) → IsAsked days day → HasDay opened day → shares_day opened days ≡ true
shares_by opened days day asked has =
    rw (test_days opened.first opened.last day has.from has.to, test_from opened.first day days.last has.from asked.to, test_to opened.last days.first day has.to asked.from) refl

-- where the tests pass, there is such a day
shared : (first last : Option ℤ) (low high : ℤ) → low ≤ℤ high → option_map_or (lasts_to last) first true ≡ true → begins_by first high ≡ true → lasts_to last low ≡ true
    → (day : ℤ) × (low ≤ℤ day) × (day ≤ℤ high) × From first day × To last day
shared None last low high le some begun lasts = (low, omega (arith, signed_arith), le, tt, to_test last low low lasts (omega (arith, signed_arith)))
shared (Some first) last low high le some begun lasts = go (int_le first low) refl
  where
    go : (b : Bool) → int_le first low ≡ b → (day : ℤ) × (low ≤ℤ day) × (day ≤ℤ high) × (first ≤ℤ day) × To last day
    go true test = (low, omega (arith, signed_arith), le, omega (arith, signed_arith, test), to_test last low low lasts (omega (arith, signed_arith)))
    go false test =
        (first, omega (arith, signed_arith, test), omega (arith, signed_arith, begun), omega (arith, signed_arith), to_test last first first some (omega (arith, signed_arith)))

-- where not all days are open, the first or the last that is asked for is not
unshared : (first last : Option ℤ) (low high : ℤ) → low ≤ℤ high → (begins_by first low && lasts_to last high) ≡ false
    → (day : ℤ) × (low ≤ℤ day) × (day ≤ℤ high) × ¬ (From first day × To last day)
unshared first last low high le test = go (begins_by first low) refl test
  where
    go : (b : Bool) → begins_by first low ≡ b → (b && lasts_to last high) ≡ false → (day : ℤ) × (low ≤ℤ day) × (day ≤ℤ high) × ¬ (From first day × To last day)
    go false before test =
        (low, omega (arith, signed_arith), le, λ h. let begun = test_from first low low h.0 (omega (arith, signed_arith)) in cc)
    go true before test =
        (high, le, omega (arith, signed_arith), λ h. let lasts = test_to last high high h.1 (omega (arith, signed_arith)) in cc)

-- what an availability says of days that are open
tells : (opened : OpenDays) (days : DayRange) → days.first ≤ℤ days.last → TellsOf (availability_in opened days) (HasDay opened) days
tells opened days le = go (shares_day opened days) (has_all opened days) refl refl
  where
    go : (s a : Bool) → shares_day opened days ≡ s → has_all opened days ≡ a → TellsOf (cond s (cond a Available Partly) Embargoed) (HasDay opened) days
    go false a shares all = λ day asked has. let some = shares_by opened days day asked has in cc
    go true true shares all = λ day asked.
        let tests = both_true (begins_by opened.first days.first) (lasts_to opened.last days.last) all in
        record { from = from_test opened.first days.first day tests.0 asked.from; to = to_test opened.last day days.last tests.1 asked.to }
    go true false shares all =
        let front = both_true (has_days opened && begins_by opened.first days.last) (lasts_to opened.last days.first) shares in
        let tests = both_true (has_days opened) (begins_by opened.first days.last) front.0 in
        let is = shared opened.first opened.last days.first days.last le tests.0 tests.1 front.1 in
        let not = unshared opened.first opened.last days.first days.last le all in (
          (is.0, record { from = is.1; to = is.2 }, record { from = is.3; to = is.4 }),
          (not.0, record { from = not.1; to = not.2 }, λ has. not.3 (has.from, has.to)),
        )

-- the same of equal sets of days
carried : (one other : ℤ → Type 0) → ((day : ℤ) → one day ↔ other day) → (availability : Availability) (days : DayRange)
    → TellsOf availability one days → TellsOf availability other days
carried one other same Available days h = λ day asked. (same day).0 (h day asked)
carried one other same Partly days h = (
  (h.0.0, h.0.1, (same h.0.0).0 h.0.2),
  (h.1.0, h.1.1, λ is. h.1.2 ((same h.1.0).1 is)),
)
carried one other same Embargoed days h = λ day asked is. h day asked ((same day).1 is)
carried one other same NotCompared days h = tt

pub tells_of_days : AvailabilityTellsOfDays
tells_of_days today embargo first last days le =
    carried (HasDay (open_days today embargo first last)) (IsOpen today embargo first last) (opened_is today embargo first last)
    (availability_in (open_days today embargo first last) days) days (tells (open_days today embargo first last) days le)
