-- The days of a text are the least and the greatest whose written date begins with it.
use Rattle.std.proofs.Common.{◌≡◌, ◌≢◌, ◌≤◌, ◌<◌, ◌+◌, ◌/◌, ◌%◌, ◌==◌, ℕ, List, [], ◌∷◌, ◌++◌, length}
use Rattle.std.proofs.Common.{Option, Some, None, refl, sym, ap, arith, ◌∙◌, Bool, true, false, cond, inl, inr, ℤ, pos, ◌≤ℤ◌}
use Rattle.std.specs.Prelude.{MatchOption, option_map, ◌&&◌}
use Rattle.std.proofs.lemmas.Bool.{cases_lt, eqb-true}
use Rattle.jiff_core.specs.Calendar.{days_from_civil, days_in_month, IsCivilDate}
use Rattle.jiff_core.proofs.CalendarLemmas.{day_count-lt_month, day_count-day, days_from_civil-day_count, days_in_month_bounds}
use Rattle.jiff_core.proofs.SignedLemmas.{signed_arith}
use Rattle.feed_dates.specs.Days.{IsDay, ymd_text, two, is_day, day_number, day_of_parts, four_digits, two_digits}
use Rattle.feed_dates.specs.DayRanges.{range, single_day, IsDayOf, AreDaysOf, IsDateLength, DatesAreRanges, days_of_year, days_of_month, days_of}
use Rattle.feed_dates.specs.declared.day_range.DayRange.{DayRange}
use Rattle.feed_dates.proofs.Dates.{civil, four_digits-written, is_day-real, real-is_day, two_digits-two, two-two_digits, two-four_digits}

-- other days of the year and of the month of a real day
new_year : (y m d : ℕ) → IsDay y m d → IsDay y 1 1
new_year y m d h = record { year_in = h.year_in; month_in = (omega arith, omega arith); day_in = (omega arith, omega (arith, (days_in_month_bounds (pos y) 1).1)) }

year_end : (y m d : ℕ) → IsDay y m d → IsDay y 12 31
year_end y m d h = record { year_in = h.year_in; month_in = (omega arith, omega arith); day_in = (omega arith, omega arith) }

month_begin : (y m d : ℕ) → IsDay y m d → IsDay y m 1
month_begin y m d h = record { year_in = h.year_in; month_in = h.month_in; day_in = (omega arith, omega (arith, (days_in_month_bounds (pos y) m).1)) }

month_end : (y m d : ℕ) → IsDay y m d → IsDay y m (days_in_month (pos y) m)
month_end y m d h = record { year_in = h.year_in; month_in = h.month_in; day_in = (omega (arith, (days_in_month_bounds (pos y) m).1), omega arith) }

-- the days of one month are in the order of their numbers, and a later month has later days
within : (y : ℤ) (m d d2 : ℕ) → 1 ≤ d → d ≤ d2 → days_from_civil y m d ≤ℤ days_from_civil y m d2
within y m d d2 h k = omega (arith, signed_arith, days_from_civil-day_count, day_count-day y m d d2 h (omega arith))

later_month : (y : ℤ) (m d m2 d2 : ℕ) → IsCivilDate y m d → 1 ≤ d2 → m < m2 → days_from_civil y m d ≤ℤ days_from_civil y m2 d2
later_month y m d m2 d2 h k lt = omega (arith, signed_arith, days_from_civil-day_count, day_count-lt_month y m d m2 d2 h k lt)

-- no day of a year is before 1 January or after 31 December
year_first : (y m d : ℕ) → IsDay y m d → days_from_civil (pos y) 1 1 ≤ℤ days_from_civil (pos y) m d
year_first y m d h = elim (cases_lt 1 m) [
  | inl later ↦ later_month (pos y) 1 1 m d (civil y 1 1 (new_year y m d h)) h.day_in.0 later
  | inr same ↦ let one : m ≡ 1 = omega (arith, h.month_in) in rw one (within (pos y) 1 1 d (omega arith) h.day_in.0)
]

year_last : (y m d : ℕ) → IsDay y m d → days_from_civil (pos y) m d ≤ℤ days_from_civil (pos y) 12 31
year_last y m d h = elim (cases_lt m 12) [
  | inl before ↦ later_month (pos y) m d 12 31 (civil y m d h) (omega arith) before
  | inr same ↦
      let twelve : m ≡ 12 = omega (arith, h.month_in) in
      let long = days_in_month_bounds (pos y) m in
      rw twelve (within (pos y) 12 d 31 h.day_in.0 (omega (arith, h.day_in)))
]

-- what a written date begins with reads as its year, its month and its day
year-written : (y m k a b c d : ℕ) (rest : List ℕ) → IsDay y m k → ymd_text y m k ≡ a ∷ b ∷ c ∷ d ∷ rest → four_digits a b c d ≡ Some y
year-written y m k a b c d rest h w =
    let ea : a ≡ 48 + y / 100 / 10 % 10 = cc in
    let eb : b ≡ 48 + y / 100 % 10 = cc in
    let ec : c ≡ 48 + y / 10 % 10 = cc in
    let ed : d ≡ 48 + y % 10 = cc in
    rw (ea, eb, ec, ed) (four_digits-written y h.year_in.1)

month-written : (y m k a b c d g e f : ℕ) (rest : List ℕ) → IsDay y m k → ymd_text y m k ≡ a ∷ b ∷ c ∷ d ∷ g ∷ e ∷ f ∷ rest → (g ≡ 45) × (two_digits e f ≡ Some m)
month-written y m k a b c d g e f rest h w =
    let eg : g ≡ 45 = cc in
    let ee : e ≡ 48 + m / 10 % 10 = cc in
    let ef : f ≡ 48 + m % 10 = cc in
    (eg, rw (ee, ef) (two_digits-two m (omega (arith, h.month_in))))

day-written : (y m k a b c d g e f u i j : ℕ) (rest : List ℕ) → IsDay y m k → ymd_text y m k ≡ a ∷ b ∷ c ∷ d ∷ g ∷ e ∷ f ∷ u ∷ i ∷ j ∷ rest
    → (u ≡ 45) × (two_digits i j ≡ Some k)
day-written y m k a b c d g e f u i j rest h w =
    let eu : u ≡ 45 = cc in
    let ei : i ≡ 48 + k / 10 % 10 = cc in
    let ej : j ≡ 48 + k % 10 = cc in
    (eu, rw (ei, ej) (two_digits-two k (omega (arith, h.day_in, days_in_month_bounds (pos y) m))))

-- a range of days has both of them
range_some : (p q : Bool) (u v : ℤ) (days : DayRange) → range (cond p (Some u) None) (cond q (Some v) None) ≡ Some days
    → (p ≡ true) × (q ≡ true) × (days.first ≡ u) × (days.last ≡ v)
range_some true true u v days e =
    let same : days ≡ record { first = u; last = v } = cc in
    (refl, refl, ap (λ r. r.first) same, ap (λ r. r.last) same)
range_some true false u v days e = cc
range_some false q u v days e = cc

both_real : (y m d m2 d2 : ℕ) → IsDay y m d → IsDay y m2 d2
    → range (day_number y m d) (day_number y m2 d2) ≡ Some (record { first = days_from_civil (pos y) m d; last = days_from_civil (pos y) m2 d2 })
both_real y m d m2 d2 h k = rw (is_day-real y m d h, is_day-real y m2 d2 k) refl

-- a day alone is real
alone_some : (p : Bool) (u : ℤ) (days : DayRange) → option_map single_day (cond p (Some u) None) ≡ Some days → (p ≡ true) × (days.first ≡ u) × (days.last ≡ u)
alone_some true u days e =
    let same : days ≡ record { first = u; last = u } = cc in
    (refl, ap (λ r. r.first) same, ap (λ r. r.last) same)
alone_some false u days e = cc

alone_real : (y m d : ℕ) → IsDay y m d → option_map single_day (day_number y m d) ≡ Some (record { first = days_from_civil (pos y) m d; last = days_from_civil (pos y) m d })
alone_real y m d h = rw (is_day-real y m d h) refl

some_same : (m n : ℕ) (o : Option ℕ) → o ≡ Some m → o ≡ Some n → m ≡ n
some_same m n o e f = cc

-- a written date begins with its year, and with its year and its month
begin_year : (y m k a b c d : ℕ) → two (y / 100) ++ two y ≡ a ∷ b ∷ c ∷ d ∷ [] → ymd_text y m k ≡ (a ∷ b ∷ c ∷ d ∷ []) ++ ((45 ∷ two m) ++ (45 ∷ two k))
begin_year y m k a b c d e = ap (λ front. front ++ (45 ∷ two m) ++ (45 ∷ two k)) e

begin_month : (y m k a b c d e f : ℕ) → two (y / 100) ++ two y ≡ a ∷ b ∷ c ∷ d ∷ [] → two m ≡ e ∷ f ∷ []
    → ymd_text y m k ≡ (a ∷ b ∷ c ∷ d ∷ 45 ∷ e ∷ f ∷ []) ++ (45 ∷ two k)
begin_month y m k a b c d e f p q = begin_year y m k a b c d p ∙ ap (λ back. (a ∷ b ∷ c ∷ d ∷ 45 ∷ back) ++ (45 ∷ two k)) q

-- `YYYY`: a day's year reads, and so does the text
year-reads : (a b c d : ℕ) (n : ℤ) → IsDayOf (a ∷ b ∷ c ∷ d ∷ []) n → (days : DayRange) × (days_of (a ∷ b ∷ c ∷ d ∷ []) ≡ Some days)
year-reads a b c d n h =
    let y = year-written h.year h.month h.day a b c d h.rest h.real h.begins in (
      record { first = days_from_civil (pos h.year) 1 1; last = days_from_civil (pos h.year) 12 31 },
      rw y (both_real h.year 1 1 12 31 (new_year h.year h.month h.day h.real) (year_end h.year h.month h.day h.real)),
    )

year-found : (a b c d : ℕ) (days : DayRange) → days_of (a ∷ b ∷ c ∷ d ∷ []) ≡ Some days → AreDaysOf (a ∷ b ∷ c ∷ d ∷ []) days
year-found a b c d days e = go (four_digits a b c d) refl e
  where
    go : (o : Option ℕ) → four_digits a b c d ≡ o → days_of_year o ≡ Some days → AreDaysOf (a ∷ b ∷ c ∷ d ∷ []) days
    go None f e = cc
    go (Some y) f e =
        let r = range_some (is_day y 1 1) (is_day y 12 31) (days_from_civil (pos y) 1 1) (days_from_civil (pos y) 12 31) days e in
        let same = λ (n : ℤ) (h : IsDayOf (a ∷ b ∷ c ∷ d ∷ []) n). some_same h.year y (four_digits a b c d) (year-written h.year h.month h.day a b c d h.rest h.real h.begins) f in
        record {
          shape = inl refl;
          is_first = record {
            year = y;
            month = 1;
            day = 1;
            real = real-is_day y 1 1 r.0;
            rest = (45 ∷ two 1) ++ (45 ∷ two 1);
            begins = begin_year y 1 1 a b c d (two-four_digits a b c d y f);
            number = r.2;
          };
          is_last = record {
            year = y;
            month = 12;
            day = 31;
            real = real-is_day y 12 31 r.1;
            rest = (45 ∷ two 12) ++ (45 ∷ two 31);
            begins = begin_year y 12 31 a b c d (two-four_digits a b c d y f);
            number = r.3;
          };
          least = λ n h. rw (r.2, h.number, sym (same n h)) (year_first h.year h.month h.day h.real);
          greatest = λ n h. rw (r.3, h.number, sym (same n h)) (year_last h.year h.month h.day h.real);
        }

-- `YYYY-MM`
month-reads : (a b c d g e f : ℕ) (n : ℤ) → IsDayOf (a ∷ b ∷ c ∷ d ∷ g ∷ e ∷ f ∷ []) n
    → (days : DayRange) × (days_of (a ∷ b ∷ c ∷ d ∷ g ∷ e ∷ f ∷ []) ≡ Some days)
month-reads a b c d g e f n h =
    let y = year-written h.year h.month h.day a b c d (g ∷ e ∷ f ∷ h.rest) h.real h.begins in
    let m = month-written h.year h.month h.day a b c d g e f h.rest h.real h.begins in (
      record { first = days_from_civil (pos h.year) h.month 1; last = days_from_civil (pos h.year) h.month (days_in_month (pos h.year) h.month) },
      rw (m.0, y, m.1) (both_real h.year h.month 1 h.month (days_in_month (pos h.year) h.month)
          (month_begin h.year h.month h.day h.real) (month_end h.year h.month h.day h.real)),
    )

month-found : (a b c d e f : ℕ) (days : DayRange) → days_of (a ∷ b ∷ c ∷ d ∷ 45 ∷ e ∷ f ∷ []) ≡ Some days → AreDaysOf (a ∷ b ∷ c ∷ d ∷ 45 ∷ e ∷ f ∷ []) days
month-found a b c d e f days is = go (four_digits a b c d) (two_digits e f) refl refl is
  where
    go : (o p : Option ℕ) → four_digits a b c d ≡ o → two_digits e f ≡ p → days_of_month o p ≡ Some days → AreDaysOf (a ∷ b ∷ c ∷ d ∷ 45 ∷ e ∷ f ∷ []) days
    go None p s t is = cc
    go (Some y) None s t is = cc
    go (Some y) (Some m) s t is =
        let long = days_in_month (pos y) m in
        let r = range_some (is_day y m 1) (is_day y m long) (days_from_civil (pos y) m 1) (days_from_civil (pos y) m long) days is in
        let same_year = λ (n : ℤ) (h : IsDayOf (a ∷ b ∷ c ∷ d ∷ 45 ∷ e ∷ f ∷ []) n).
        some_same h.year y (four_digits a b c d) (year-written h.year h.month h.day a b c d (45 ∷ e ∷ f ∷ h.rest) h.real h.begins) s in
        let same_month = λ (n : ℤ) (h : IsDayOf (a ∷ b ∷ c ∷ d ∷ 45 ∷ e ∷ f ∷ []) n).
        some_same h.month m (two_digits e f) (month-written h.year h.month h.day a b c d 45 e f h.rest h.real h.begins).1 t in
        record {
          shape = inr (inl refl);
          is_first = record {
            year = y;
            month = m;
            day = 1;
            real = real-is_day y m 1 r.0;
            rest = 45 ∷ two 1;
            begins = begin_month y m 1 a b c d e f (two-four_digits a b c d y s) (two-two_digits e f m t);
            number = r.2;
          };
          is_last = record {
            year = y;
            month = m;
            day = long;
            real = real-is_day y m long r.1;
            rest = 45 ∷ two long;
            begins = begin_month y m long a b c d e f (two-four_digits a b c d y s) (two-two_digits e f m t);
            number = r.3;
          };
          least = λ n h. rw (r.2, h.number, sym (same_year n h), sym (same_month n h)) (within (pos h.year) h.month 1 h.day (omega arith) h.real.day_in.0);
          greatest = λ n h. rw (r.3, h.number, sym (same_year n h), sym (same_month n h)) (within (pos h.year) h.month h.day (days_in_month (pos h.year) h.month) h.real.day_in.0 h.real.day_in.1);
        }

only_day : (y m k y2 m2 k2 : ℕ) → y ≡ y2 → m ≡ m2 → k ≡ k2 → days_from_civil (pos y) m k ≡ days_from_civil (pos y2) m2 k2
only_day y m k y2 m2 k2 p q r = rw (p, q, r) refl

-- `YYYY-MM-DD`
day-reads : (a b c d g e f u i j : ℕ) (n : ℤ) → IsDayOf (a ∷ b ∷ c ∷ d ∷ g ∷ e ∷ f ∷ u ∷ i ∷ j ∷ []) n
    → (days : DayRange) × (days_of (a ∷ b ∷ c ∷ d ∷ g ∷ e ∷ f ∷ u ∷ i ∷ j ∷ []) ≡ Some days)
day-reads a b c d g e f u i j n h =
    let y = year-written h.year h.month h.day a b c d (g ∷ e ∷ f ∷ u ∷ i ∷ j ∷ h.rest) h.real h.begins in
    let m = month-written h.year h.month h.day a b c d g e f (u ∷ i ∷ j ∷ h.rest) h.real h.begins in
    let k = day-written h.year h.month h.day a b c d g e f u i j h.rest h.real h.begins in (
      record { first = days_from_civil (pos h.year) h.month h.day; last = days_from_civil (pos h.year) h.month h.day },
      rw (m.0, k.0, y, m.1, k.1) (alone_real h.year h.month h.day h.real),
    )

day-found : (a b c d e f i j : ℕ) (days : DayRange) → days_of (a ∷ b ∷ c ∷ d ∷ 45 ∷ e ∷ f ∷ 45 ∷ i ∷ j ∷ []) ≡ Some days
    → AreDaysOf (a ∷ b ∷ c ∷ d ∷ 45 ∷ e ∷ f ∷ 45 ∷ i ∷ j ∷ []) days
day-found a b c d e f i j days is = go (four_digits a b c d) (two_digits e f) (two_digits i j) refl refl refl is
  where
    go : (o p q : Option ℕ) → four_digits a b c d ≡ o → two_digits e f ≡ p → two_digits i j ≡ q → option_map single_day (day_of_parts o p q) ≡ Some days
        → AreDaysOf (a ∷ b ∷ c ∷ d ∷ 45 ∷ e ∷ f ∷ 45 ∷ i ∷ j ∷ []) days
    go None p q r s t is = cc
    go (Some y) None q r s t is = cc
    go (Some y) (Some m) None r s t is = cc
    go (Some y) (Some m) (Some k) r s t is =
        let both = alone_some (is_day y m k) (days_from_civil (pos y) m k) days is in
        let begins = begin_month y m k a b c d e f (two-four_digits a b c d y r) (two-two_digits e f m s)
        ∙ ap (λ back. (a ∷ b ∷ c ∷ d ∷ 45 ∷ e ∷ f ∷ []) ++ (45 ∷ back)) (two-two_digits i j k t) in
        let one = λ (n : ℤ) (h : IsDayOf (a ∷ b ∷ c ∷ d ∷ 45 ∷ e ∷ f ∷ 45 ∷ i ∷ j ∷ []) n).
        only_day h.year h.month h.day y m k
        (some_same h.year y (four_digits a b c d) (year-written h.year h.month h.day a b c d (45 ∷ e ∷ f ∷ 45 ∷ i ∷ j ∷ h.rest) h.real h.begins) r)
        (some_same h.month m (two_digits e f) (month-written h.year h.month h.day a b c d 45 e f (45 ∷ i ∷ j ∷ h.rest) h.real h.begins).1 s)
        (some_same h.day k (two_digits i j) (day-written h.year h.month h.day a b c d 45 e f 45 i j h.rest h.real h.begins).1 t) in
        record {
          shape = inr (inr refl);
          is_first = record { year = y; month = m; day = k; real = real-is_day y m k both.0; rest = []; begins = begins; number = both.1 };
          is_last = record { year = y; month = m; day = k; real = real-is_day y m k both.0; rest = []; begins = begins; number = both.2 };
          least = λ n h. rw (both.1, h.number, one n h) (omega (arith, signed_arith));
          greatest = λ n h. rw (both.2, h.number, one n h) (omega (arith, signed_arith));
        }

-- the law, from what a day's text reads as and what is found
law : (text : List ℕ) → ((days : DayRange) → days_of text ≡ Some days → AreDaysOf text days)
    → (IsDateLength text → (n : ℤ) → IsDayOf text n → (days : DayRange) × (days_of text ≡ Some days)) → DatesAreRanges text
law text found reads = go (days_of text) refl
  where
    go : (o : Option DayRange) → days_of text ≡ o → MatchOption o (IsDateLength text → (n : ℤ) → ¬ IsDayOf text n) (AreDaysOf text)
    go None e = λ shape n h. let p = reads shape n h in let q = p.1 in cc
    go (Some days) e = found days e

-- a text of another length reads as no date
no_date : (text : List ℕ) → days_of text ≡ None → length text ≢ 4 → length text ≢ 7 → length text ≢ 10 → DatesAreRanges text
no_date text none a b c = rw none (λ shape n h. elim shape [ inl e ↦ a e | inr rest ↦ elim rest [ inl e ↦ b e | inr e ↦ c e ] ])

-- only hyphens separate the parts of a date
month-with_hyphens : (a b c d g e f : ℕ) (days : DayRange) → days_of (a ∷ b ∷ c ∷ d ∷ g ∷ e ∷ f ∷ []) ≡ Some days → AreDaysOf (a ∷ b ∷ c ∷ d ∷ g ∷ e ∷ f ∷ []) days
month-with_hyphens a b c d g e f days is = go (g == 45) refl is
  where
    go : (p : Bool) → (g == 45) ≡ p → cond p (days_of_month (four_digits a b c d) (two_digits e f)) None ≡ Some days → AreDaysOf (a ∷ b ∷ c ∷ d ∷ g ∷ e ∷ f ∷ []) days
    go false test is = cc
    go true test is = let hyphen : g ≡ 45 = eqb-true g 45 test in rw hyphen (month-found a b c d e f days is)

day-with_hyphens : (a b c d g e f u i j : ℕ) (days : DayRange) → days_of (a ∷ b ∷ c ∷ d ∷ g ∷ e ∷ f ∷ u ∷ i ∷ j ∷ []) ≡ Some days
    → AreDaysOf (a ∷ b ∷ c ∷ d ∷ g ∷ e ∷ f ∷ u ∷ i ∷ j ∷ []) days
day-with_hyphens a b c d g e f u i j days is = go (g == 45) (u == 45) refl refl is
  where
    go : (p q : Bool) → (g == 45) ≡ p → (u == 45) ≡ q → option_map single_day (cond (p && q) (day_of_parts (four_digits a b c d) (two_digits e f) (two_digits i j)) None) ≡ Some days
        → AreDaysOf (a ∷ b ∷ c ∷ d ∷ g ∷ e ∷ f ∷ u ∷ i ∷ j ∷ []) days
    go false q test more is = cc
    go true false test more is = cc
    go true true test more is =
        let hyphen : g ≡ 45 = eqb-true g 45 test in
        let second : u ≡ 45 = eqb-true u 45 more in
        rw (hyphen, second) (day-found a b c d e f i j days is)

pub date-law : (text : List ℕ) → DatesAreRanges text
date-law (a ∷ b ∷ c ∷ d ∷ []) = law (a ∷ b ∷ c ∷ d ∷ []) (year-found a b c d) (λ shape n h. year-reads a b c d n h)
date-law (a ∷ b ∷ c ∷ d ∷ g ∷ e ∷ f ∷ []) = law (a ∷ b ∷ c ∷ d ∷ g ∷ e ∷ f ∷ []) (month-with_hyphens a b c d g e f) (λ shape n h. month-reads a b c d g e f n h)
date-law (a ∷ b ∷ c ∷ d ∷ g ∷ e ∷ f ∷ u ∷ i ∷ j ∷ []) =
    law (a ∷ b ∷ c ∷ d ∷ g ∷ e ∷ f ∷ u ∷ i ∷ j ∷ []) (day-with_hyphens a b c d g e f u i j) (λ shape n h. day-reads a b c d g e f u i j n h)
date-law [] = no_date [] refl (λ e. omega (arith, e)) (λ e. omega (arith, e)) (λ e. omega (arith, e))
date-law (a ∷ []) = no_date (a ∷ []) refl (λ e. omega (arith, e)) (λ e. omega (arith, e)) (λ e. omega (arith, e))
date-law (a ∷ b ∷ []) = no_date (a ∷ b ∷ []) refl (λ e. omega (arith, e)) (λ e. omega (arith, e)) (λ e. omega (arith, e))
date-law (a ∷ b ∷ c ∷ []) = no_date (a ∷ b ∷ c ∷ []) refl (λ e. omega (arith, e)) (λ e. omega (arith, e)) (λ e. omega (arith, e))
date-law (a ∷ b ∷ c ∷ d ∷ e ∷ []) = no_date (a ∷ b ∷ c ∷ d ∷ e ∷ []) refl (λ e. omega (arith, e)) (λ e. omega (arith, e)) (λ e. omega (arith, e))
date-law (a ∷ b ∷ c ∷ d ∷ e ∷ f ∷ []) = no_date (a ∷ b ∷ c ∷ d ∷ e ∷ f ∷ []) refl (λ e. omega (arith, e)) (λ e. omega (arith, e)) (λ e. omega (arith, e))
date-law (a ∷ b ∷ c ∷ d ∷ e ∷ f ∷ g ∷ h ∷ []) =
    no_date (a ∷ b ∷ c ∷ d ∷ e ∷ f ∷ g ∷ h ∷ []) refl (λ e. omega (arith, e)) (λ e. omega (arith, e)) (λ e. omega (arith, e))
date-law (a ∷ b ∷ c ∷ d ∷ e ∷ f ∷ g ∷ h ∷ i ∷ []) =
    no_date (a ∷ b ∷ c ∷ d ∷ e ∷ f ∷ g ∷ h ∷ i ∷ []) refl (λ e. omega (arith, e)) (λ e. omega (arith, e)) (λ e. omega (arith, e))
date-law (a ∷ b ∷ c ∷ d ∷ e ∷ f ∷ g ∷ h ∷ i ∷ j ∷ k ∷ rest) =
    no_date (a ∷ b ∷ c ∷ d ∷ e ∷ f ∷ g ∷ h ∷ i ∷ j ∷ k ∷ rest) refl (λ e. omega (arith, e)) (λ e. omega (arith, e)) (λ e. omega (arith, e))
