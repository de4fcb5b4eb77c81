-- A line is split at its quotes into its parts.
use Rattle.std.proofs.Common.{append_assoc, ◌≡◌, ◌<◌, ◌^◌, ◌+◌, ◌/◌, ◌%◌, ℕ, ℤ, pos, List, [], ◌∷◌, ◌++◌, codes, Bool, true, false, refl, ap, ◌∙◌, inl, inr, arith, rules, All}
use Rattle.std.specs.Prelude.{◌==◌, ◌&&◌, ◌-◌, ◌*◌, ◌-ℤ◌, not, min, slice_index, if◌then◌else◌, unsigned_abs}
use Rattle.std.specs.List.{list_all, slice_split, onto_first, AllByRecursion}
use Rattle.std.specs.Char.{is_ascii_digit}
use Rattle.std.specs.Fmt.{decimal}
use Rattle.std.specs.Option.{option_map_or}
use Rattle.std.specs.Ordering.{int_eq}
use Rattle.std.proofs.lemmas.Grind.{flat_map-append}
use Rattle.std.proofs.lemmas.Bool.{cases_Bool}
use Rattle.std.proofs.lemmas.Bool.Decides.{nat_tests}
use Rattle.std.specs.Str.Parse.{digits_value}
use Rattle.std.proofs.lemmas.Str.Parse.{IsNumeralModel, numerals_by_value}
use Rattle.std.proofs.lemmas.Fmt.{decimal_is_IsNumeral}
use Rattle.std.proofs.lemmas.List.Elements.{recursion_from_All}
use Rattle.jiff_core.specs.Calendar.{days_from_civil}
use Rattle.feed_dates.specs.Days.{date_of_day, date_text, day_of_date, year_of, ymd_text}
use Rattle.feed_dates.specs.Days as days
use Rattle.node_monitoring.specs.LogEscapes.{escape_byte, is_visible, escaped}
use Rattle.node_monitoring.specs.LogTimes.{month_name, month_of, day_text, day_part, clock_text, time_text, days_in, two}
use Rattle.node_monitoring.specs.LogFragments.{or_dash}
use Rattle.node_monitoring.specs.LogLines.{EntryValue, IsByte, IsEntry, line_text, parts_of, before_request, response_part, after_agent, joined, with_quotes}
use Rattle.node_monitoring.proofs.EscapedTexts.{visible}

abbrev other : ℕ → Bool
other b = not (b == 34)

abbrev quote : ℕ → Bool
quote b = b == 34

abbrev Unquoted : List ℕ → Type 0
Unquoted text = AllByRecursion (λ b. other b ≡ true) text

unquoted_append : (xs ys : List ℕ) → Unquoted xs → Unquoted ys → Unquoted (xs ++ ys)
unquoted_append [] ys one two = two
unquoted_append (x ∷ xs) ys one two = (one.0, unquoted_append xs ys one.1 two)

other_differs : (b : ℕ) → other b ≡ true → (b == 34) ≡ false
other_differs b holds = grind (arith, nat_tests)

splits : (xs ys : List ℕ) → Unquoted xs → slice_split quote (xs ++ 34 ∷ ys) ≡ xs ∷ slice_split quote ys
splits [] ys clean = refl
splits (x ∷ xs) ys clean = rw (other_differs x clean.0) (ap (onto_first x) (splits xs ys clean.1))

whole : (xs : List ℕ) → Unquoted xs → slice_split quote xs ≡ xs ∷ []
whole [] clean = refl
whole (x ∷ xs) clean = rw (other_differs x clean.0) (ap (onto_first x) (whole xs clean.1))

abbrev AllUnquoted : List (List ℕ) → Type 0
AllUnquoted parts = AllByRecursion Unquoted parts

-- parts with quotes between them are split into the parts
parted : (part : List ℕ) (parts : List (List ℕ)) → Unquoted part → AllUnquoted parts → slice_split quote (with_quotes (part ∷ parts)) ≡ part ∷ parts
parted part [] clean rest = whole part clean
parted part (next ∷ parts) clean rest = splits part (with_quotes (next ∷ parts)) clean ∙ ap (λ ps. part ∷ ps) (parted next parts rest.0 rest.1)

joined_unquoted : (texts : List (List ℕ)) → AllUnquoted texts → Unquoted (joined texts)
joined_unquoted [] clean = tt
joined_unquoted (text ∷ texts) clean = unquoted_append text (joined texts) clean.0 (joined_unquoted texts clean.1)

visible_other : (b : ℕ) → is_visible b ≡ true → other b ≡ true
visible_other b holds = grind (arith, nat_tests)

visible_unquoted : (text : List ℕ) → AllByRecursion (λ b. is_visible b ≡ true) text → Unquoted text
visible_unquoted [] all = tt
visible_unquoted (b ∷ text) all = (visible_other b all.0, visible_unquoted text all.1)

escaped_unquoted : (text : List ℕ) → All IsByte text → Unquoted (escaped text)
escaped_unquoted text small = visible_unquoted (escaped text) (recursion_from_All (λ b. is_visible b ≡ true) (escaped text) (visible text small))

dash_unquoted : (text : List ℕ) → All IsByte text → Unquoted (or_dash text)
dash_unquoted [] small = (refl, tt)
dash_unquoted (b ∷ text) small = escaped_unquoted (b ∷ text) small

-- digits have no quote
numerals : IsNumeralModel (λ ds. list_all is_ascii_digit ds ≡ true) (digits_value 10)
numerals = numerals_by_value (λ ds. list_all is_ascii_digit ds ≡ true) (search rules)

both : (s t : Bool) → (s && t) ≡ true → (s ≡ true) × (t ≡ true)
both true t holds = (refl, holds)
both false t holds = absurd (cc)

digit_other : (b : ℕ) → is_ascii_digit b ≡ true → other b ≡ true
digit_other b digit = grind (arith, nat_tests)

digits_unquoted : (ds : List ℕ) → list_all is_ascii_digit ds ≡ true → Unquoted ds
digits_unquoted [] all = tt
digits_unquoted (d ∷ ds) all = let parts = both (is_ascii_digit d) (list_all is_ascii_digit ds) all in (digit_other d parts.0, digits_unquoted ds parts.1)

number_unquoted : (n : ℕ) → n < 2 ^ 64 → Unquoted (decimal n)
number_unquoted n small = digits_unquoted (decimal n) (numerals.from (decimal n) (decimal_is_IsNumeral n small).0.1)

above_other : (n : ℕ) → other (48 + n) ≡ true
above_other n = grind (arith, nat_tests)

two_unquoted : (n : ℕ) → Unquoted (two n)
two_unquoted n = (above_other (n / 10 % 10), (above_other (n % 10), tt))

clock_unquoted : (t : ℕ) → Unquoted (clock_text t)
clock_unquoted t =
    unquoted_append (58 ∷ two (t / 3600)) ((58 ∷ two (t / 60 % 60)) ++ (58 ∷ two (t % 60))) (refl, two_unquoted (t / 3600))
    (unquoted_append (58 ∷ two (t / 60 % 60)) (58 ∷ two (t % 60)) (refl, two_unquoted (t / 60 % 60)) (refl, two_unquoted (t % 60)))

either : (c : Bool) (a b : List ℕ) → Unquoted a → Unquoted b → Unquoted (if c then a else b)
either true a b one two = one
either false a b one two = two

month_unquoted : (n : ℕ) → Unquoted (month_name n)
month_unquoted n =
    either (n == 1) (codes "Jan") _ (refl, (refl, (refl, tt)))
    (either (n == 2) (codes "Feb") _ (refl, (refl, (refl, tt)))
    (either (n == 3) (codes "Mar") _ (refl, (refl, (refl, tt)))
    (either (n == 4) (codes "Apr") _ (refl, (refl, (refl, tt)))
    (either (n == 5) (codes "May") _ (refl, (refl, (refl, tt)))
    (either (n == 6) (codes "Jun") _ (refl, (refl, (refl, tt)))
    (either (n == 7) (codes "Jul") _ (refl, (refl, (refl, tt)))
    (either (n == 8) (codes "Aug") _ (refl, (refl, (refl, tt)))
    (either (n == 9) (codes "Sep") _ (refl, (refl, (refl, tt)))
    (either (n == 10) (codes "Oct") _ (refl, (refl, (refl, tt)))
    (either (n == 11) (codes "Nov") (codes "Dec") (refl, (refl, (refl, tt))) (refl, (refl, (refl, tt)))))))))))))

day_shape : (x y p q r s : ℕ) (name : List ℕ) → other x ≡ true → other y ≡ true → other p ≡ true → other q ≡ true → other r ≡ true → other s ≡ true
    → Unquoted name → Unquoted ((x ∷ y ∷ 47 ∷ []) ++ (name ++ (47 ∷ p ∷ q ∷ r ∷ s ∷ [])))
day_shape x y p q r s name ox oy op oq or os clean =
    let last : Unquoted (47 ∷ p ∷ q ∷ r ∷ s ∷ []) = (refl, (op, (oq, (or, (os, tt))))) in
    (ox, (oy, (refl, unquoted_append name (47 ∷ p ∷ q ∷ r ∷ s ∷ []) clean last)))

-- a date has digits at the places of its digits
day_unquoted : (year month day : ℕ) → Unquoted (day_text (ymd_text year month day))
day_unquoted year month day = let date = ymd_text year month day in
    day_shape (slice_index date 8) (slice_index date 9) (slice_index date 0) (slice_index date 1) (slice_index date 2) (slice_index date 3) (month_of date)
    (above_other (day / 10 % 10)) (above_other (day % 10)) (above_other (year / 100 / 10 % 10)) (above_other (year / 100 % 10)) (above_other (year / 10 % 10)) (above_other (year % 10))
    (month_unquoted (min (slice_index date 5 - 48) 1 * 10 + min (slice_index date 6 - 48) 9))

part_unquoted : (day : ℤ) → Unquoted (day_part (date_of_day day))
part_unquoted day = elim (cases_Bool (option_map_or (int_eq day) (day_of_date (date_text day)) false)) [
  | inl real ↦ rw real (day_unquoted (year_of day) (days.month_of day) (unsigned_abs (day -ℤ days_from_civil (pos (year_of day)) (days.month_of day) 1) + 1))
  | inr none ↦ rw none tt
]

time_unquoted : (seconds : ℕ) → Unquoted (time_text seconds)
time_unquoted seconds = unquoted_append (day_part (date_of_day (pos (days_in seconds)))) (clock_text (seconds % 86400))
    (part_unquoted (pos (days_in seconds))) (clock_unquoted (seconds % 86400))

pub line_parts : (e : EntryValue) → IsEntry e → slice_split (λ b. b == 34) (line_text e) ≡ parts_of e
unfolding line_text
line_parts e is = parted (before_request e) (escaped e.line ∷ response_part e ∷ or_dash e.referrer ∷ codes " " ∷ or_dash e.user_agent ∷ after_agent e ∷ [])
    (joined_unquoted (escaped e.client ∷ codes " - - [" ∷ time_text e.seconds ∷ codes " +0000] " ∷ [])
    (escaped_unquoted e.client is.client, ((refl, (refl, (refl, (refl, (refl, (refl, tt)))))), (time_unquoted e.seconds, ((refl, (refl, (refl, (refl, (refl, (refl, (refl, (refl, tt)))))))), tt))))) (
      escaped_unquoted e.line is.line,
      (
        joined_unquoted (codes " " ∷ decimal e.status ∷ codes " " ∷ decimal e.sent ∷ codes " " ∷ [])
            ((refl, tt), (number_unquoted e.status is.status, ((refl, tt), (number_unquoted e.sent is.sent, ((refl, tt), tt))))),
        (
          dash_unquoted e.referrer is.referrer,
          (
            (refl, tt),
            (
              dash_unquoted e.user_agent is.user_agent,
              (
                joined_unquoted (codes " " ∷ decimal e.millis ∷ codes " " ∷ or_dash e.site ∷ codes "\n" ∷ [])
                    ((refl, tt), (number_unquoted e.millis is.millis, ((refl, tt), (dash_unquoted e.site is.site, ((refl, tt), tt))))),
                tt,
              ),
            ),
          ),
        ),
      ),
    )

-- the fragments of a line make the line
pub fragments_line : (client : List ℕ) (seconds : ℕ) (method gap target version : List ℕ) (status sent : ℕ) (referrer agent : List ℕ) (millis : ℕ) (site : List ℕ) (n : ℕ) → n ≡ status
    → joined (escaped client ∷ codes " - - [" ∷ time_text seconds ∷ codes " +0000] \"" ∷ escaped method ∷ escaped gap ∷ escaped target ∷ escaped gap ∷ escaped version
    ∷ codes "\" " ∷ decimal n ∷ codes " " ∷ decimal sent ∷ codes " \"" ∷ or_dash referrer ∷ codes "\" \"" ∷ or_dash agent ∷ codes "\" " ∷ decimal millis ∷ codes " " ∷ or_dash site
    ∷ codes "\n" ∷ [])
    ≡ line_text
    (record {
      client = client;
      seconds = seconds;
      line = method ++ (gap ++ (target ++ (gap ++ version)));
      status = status;
      sent = sent;
      referrer = referrer;
      user_agent = agent;
      millis = millis;
      site = site;
    })
unfolding line_text
fragments_line client seconds method gap target version status sent referrer agent millis site n same =
    rw (
      same,
      flat_map-append escape_byte method (gap ++ (target ++ (gap ++ version))),
      flat_map-append escape_byte gap (target ++ (gap ++ version)),
      flat_map-append escape_byte target (gap ++ version),
      flat_map-append escape_byte gap version,
    ) (simp (append_assoc) refl)
