use Rattle.std.proofs.Common.{◌≡◌, ◌≤◌, ◌<◌, ◌∙◌, ℕ, List, [], ◌∷◌, length, get_or, Some, None, if◌then◌else◌, is_some, refl, sym, ap, arith}
use Rattle.feed_dates.specs.declared.day_range.DayRange.{DayRange}
use Rattle.feed_dates.specs.DayRanges.{query_days_of, with_hyphens}
use Rattle.feed_openurl.specs.Texts.{date_text_of}
use Rattle.feed_openurl.proofs.date.DateText.of_query.Goals as goal

-- a text of each length, with its hyphens
of_year : (text : List ℕ) → 4 ≤ length text → length text < 5 → get_or text 0 0 ∷ get_or text 1 0 ∷ get_or text 2 0 ∷ get_or text 3 0 ∷ [] ≡ with_hyphens text
of_year [] least most = absurd (omega arith)
of_year (a ∷ []) least most = absurd (omega arith)
of_year (a ∷ b ∷ []) least most = absurd (omega arith)
of_year (a ∷ b ∷ c ∷ []) least most = absurd (omega arith)
of_year (a ∷ b ∷ c ∷ d ∷ []) least most = refl
of_year (a ∷ b ∷ c ∷ d ∷ k ∷ more) least most = absurd (omega arith)

of_month : (text : List ℕ) → 6 ≤ length text → length text < 7
    → get_or text 0 0 ∷ get_or text 1 0 ∷ get_or text 2 0 ∷ get_or text 3 0 ∷ 45 ∷ get_or text 4 0 ∷ get_or text 5 0 ∷ [] ≡ with_hyphens text
of_month [] least most = absurd (omega arith)
of_month (a ∷ []) least most = absurd (omega arith)
of_month (a ∷ b ∷ []) least most = absurd (omega arith)
of_month (a ∷ b ∷ c ∷ []) least most = absurd (omega arith)
of_month (a ∷ b ∷ c ∷ d ∷ []) least most = absurd (omega arith)
of_month (a ∷ b ∷ c ∷ d ∷ e ∷ []) least most = absurd (omega arith)
of_month (a ∷ b ∷ c ∷ d ∷ e ∷ f ∷ []) least most = refl
of_month (a ∷ b ∷ c ∷ d ∷ e ∷ f ∷ k ∷ more) least most = absurd (omega arith)

of_day : (text : List ℕ) → 8 ≤ length text → length text < 9
    → get_or text 0 0 ∷ get_or text 1 0 ∷ get_or text 2 0 ∷ get_or text 3 0 ∷ 45 ∷ get_or text 4 0 ∷ get_or text 5 0 ∷ 45 ∷ get_or text 6 0 ∷ get_or text 7 0 ∷ [] ≡ with_hyphens text
of_day [] least most = absurd (omega arith)
of_day (a ∷ []) least most = absurd (omega arith)
of_day (a ∷ b ∷ []) least most = absurd (omega arith)
of_day (a ∷ b ∷ c ∷ []) least most = absurd (omega arith)
of_day (a ∷ b ∷ c ∷ d ∷ []) least most = absurd (omega arith)
of_day (a ∷ b ∷ c ∷ d ∷ e ∷ []) least most = absurd (omega arith)
of_day (a ∷ b ∷ c ∷ d ∷ e ∷ f ∷ []) least most = absurd (omega arith)
of_day (a ∷ b ∷ c ∷ d ∷ e ∷ f ∷ g ∷ []) least most = absurd (omega arith)
of_day (a ∷ b ∷ c ∷ d ∷ e ∷ f ∷ g ∷ h ∷ []) least most = refl
of_day (a ∷ b ∷ c ∷ d ∷ e ∷ f ∷ g ∷ h ∷ k ∷ more) least most = absurd (omega arith)

of_hyphened_month : (text : List ℕ) → 7 ≤ length text → length text < 8 → get_or text 4 0 ≡ 45
    → get_or text 0 0 ∷ get_or text 1 0 ∷ get_or text 2 0 ∷ get_or text 3 0 ∷ 45 ∷ get_or text 5 0 ∷ get_or text 6 0 ∷ [] ≡ with_hyphens text
of_hyphened_month [] least most at = absurd (omega arith)
of_hyphened_month (a ∷ []) least most at = absurd (omega arith)
of_hyphened_month (a ∷ b ∷ []) least most at = absurd (omega arith)
of_hyphened_month (a ∷ b ∷ c ∷ []) least most at = absurd (omega arith)
of_hyphened_month (a ∷ b ∷ c ∷ d ∷ []) least most at = absurd (omega arith)
of_hyphened_month (a ∷ b ∷ c ∷ d ∷ e ∷ []) least most at = absurd (omega arith)
of_hyphened_month (a ∷ b ∷ c ∷ d ∷ e ∷ f ∷ []) least most at = absurd (omega arith)
of_hyphened_month (a ∷ b ∷ c ∷ d ∷ e ∷ f ∷ g ∷ []) least most at = ap (λ x. a ∷ b ∷ c ∷ d ∷ x ∷ f ∷ g ∷ []) (sym at)
of_hyphened_month (a ∷ b ∷ c ∷ d ∷ e ∷ f ∷ g ∷ k ∷ more) least most at = absurd (omega arith)

of_hyphened_day : (text : List ℕ) → 10 ≤ length text → length text < 11 → get_or text 4 0 ≡ 45 → get_or text 7 0 ≡ 45
    → get_or text 0 0 ∷ get_or text 1 0 ∷ get_or text 2 0 ∷ get_or text 3 0 ∷ 45 ∷ get_or text 5 0 ∷ get_or text 6 0 ∷ 45 ∷ get_or text 8 0 ∷ get_or text 9 0 ∷ [] ≡ with_hyphens text
of_hyphened_day [] least most at also = absurd (omega arith)
of_hyphened_day (a ∷ []) least most at also = absurd (omega arith)
of_hyphened_day (a ∷ b ∷ []) least most at also = absurd (omega arith)
of_hyphened_day (a ∷ b ∷ c ∷ []) least most at also = absurd (omega arith)
of_hyphened_day (a ∷ b ∷ c ∷ d ∷ []) least most at also = absurd (omega arith)
of_hyphened_day (a ∷ b ∷ c ∷ d ∷ e ∷ []) least most at also = absurd (omega arith)
of_hyphened_day (a ∷ b ∷ c ∷ d ∷ e ∷ f ∷ []) least most at also = absurd (omega arith)
of_hyphened_day (a ∷ b ∷ c ∷ d ∷ e ∷ f ∷ g ∷ []) least most at also = absurd (omega arith)
of_hyphened_day (a ∷ b ∷ c ∷ d ∷ e ∷ f ∷ g ∷ h ∷ []) least most at also = absurd (omega arith)
of_hyphened_day (a ∷ b ∷ c ∷ d ∷ e ∷ f ∷ g ∷ h ∷ i ∷ []) least most at also = absurd (omega arith)
of_hyphened_day (a ∷ b ∷ c ∷ d ∷ e ∷ f ∷ g ∷ h ∷ i ∷ j ∷ []) least most at also =
    ap (λ x. a ∷ b ∷ c ∷ d ∷ x ∷ f ∷ g ∷ 45 ∷ i ∷ j ∷ []) (sym at)
    ∙ ap (λ x. a ∷ b ∷ c ∷ d ∷ e ∷ f ∷ g ∷ x ∷ i ∷ j ∷ []) (sym also)
of_hyphened_day (a ∷ b ∷ c ∷ d ∷ e ∷ f ∷ g ∷ h ∷ i ∷ j ∷ k ∷ more) least most at also = absurd (omega arith)

-- a date that the calendar has is its text
valid : (text out : List ℕ) (days : DayRange) → query_days_of text ≡ Some days → out ≡ with_hyphens text → Some out ≡ date_text_of text
valid text out days is same = ap Some same ∙ sym (ap (λ o. if is_some o then Some (with_hyphens text) else None) is)

pub returns-in-len4 : goal.returns-in-len4
returns-in-len4 c =
    valid c.args.text.now _ c.in_ok-of_query.field-0 (sym c.of_query.ensures ∙ c.in_ok-of_query.was)
    (of_year c.args.text.now c.in-len4.len_at_least c.in-len4.len_below)

pub returns-in-len6 : goal.returns-in-len6
returns-in-len6 c =
    valid c.args.text.now _ c.in_ok-of_query.field-0 (sym c.of_query.ensures ∙ c.in_ok-of_query.was)
    (of_month c.args.text.now c.in-len6.len_at_least c.in-len6.len_below)

pub returns-in-len8 : goal.returns-in-len8
returns-in-len8 c =
    valid c.args.text.now _ c.in_ok-of_query.field-0 (sym c.of_query.ensures ∙ c.in_ok-of_query.was)
    (of_day c.args.text.now c.in-len8.len_at_least c.in-len8.len_below)

pub returns-in-45 : goal.returns-in-45
returns-in-45 c =
    valid c.args.text.now _ c.in_ok-of_query.field-0 (sym c.of_query.ensures ∙ c.in_ok-of_query.was)
    (of_hyphened_month c.args.text.now c.in-45.len_at_least c.in-45.len_below (omega arith))

pub returns-in-45-2 : goal.returns-in-45-2
returns-in-45-2 c =
    valid c.args.text.now _ c.in_ok-of_query.field-0 (sym c.of_query.ensures ∙ c.in_ok-of_query.was)
    (of_hyphened_day c.args.text.now c.in-45-2.len_at_least c.in-45-2.len_below (omega arith) (omega arith))
