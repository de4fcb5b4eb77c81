-- The date and the volume that the core reads of a query are those that are understood.
use Rattle.std.proofs.Common.{◌≡◌, ℕ, Bool, true, false, List, [], ◌∷◌, Option, Some, None, if◌then◌else◌, is_some, codes, refl, ap, ◌∙◌}
use Rattle.std.specs.Prelude.{IfSome}
use Rattle.std.specs.Option.{option_and_then}
use Rattle.std.specs.List.{cons_option, filter_map}
use Rattle.feed_bytes.specs.Trim.{trimmed}
use Rattle.feed_dates.specs.declared.day_range.DayRange.{DayRange}
use Rattle.feed_dates.specs.DayRanges.{days_of, query_days_of, with_hyphens}
use Rattle.feed_kbart.specs.Volumes.{volume_of}
use Rattle.feed_answer.specs.Pairs.{days_of_pair, first, first_days, first_volume, has_key}
use Rattle.feed_answer.specs.Pairs as core
use Rattle.feed_openurl.specs.Core.{core_date, core_volume, date_of_pair, volume_of_pair}
use Rattle.feed_openurl.specs.Keys.{or_text}
use Rattle.feed_openurl.specs.Texts.{date_text_of, volume_text_of}

hyphens_again : (text : List ℕ) → with_hyphens (with_hyphens text) ≡ with_hyphens text
hyphens_again [] = refl
hyphens_again (a ∷ []) = refl
hyphens_again (a ∷ b ∷ []) = refl
hyphens_again (a ∷ b ∷ c ∷ []) = refl
hyphens_again (a ∷ b ∷ c ∷ d ∷ []) = refl
hyphens_again (a ∷ b ∷ c ∷ d ∷ e ∷ []) = refl
hyphens_again (a ∷ b ∷ c ∷ d ∷ e ∷ f ∷ []) = refl
hyphens_again (a ∷ b ∷ c ∷ d ∷ e ∷ f ∷ g ∷ []) = refl
hyphens_again (a ∷ b ∷ c ∷ d ∷ e ∷ f ∷ g ∷ h ∷ []) = refl
hyphens_again (a ∷ b ∷ c ∷ d ∷ e ∷ f ∷ g ∷ h ∷ i ∷ text) = refl

-- the first date, as a text, has the days of the first date
step_days : (value : List ℕ) (days : Option DayRange) (texts : List (List ℕ)) (others : List DayRange) → query_days_of value ≡ days
    → option_and_then query_days_of (first texts) ≡ first others
    → option_and_then query_days_of (first (cons_option (if is_some days then Some (with_hyphens value) else None) texts)) ≡ first (cons_option days others)
step_days value None texts others read later = later
step_days value (Some days) texts others read later = ap days_of (hyphens_again value) ∙ read

step_date : (found : Bool) (value : List ℕ) (texts : List (List ℕ)) (others : List DayRange) → option_and_then query_days_of (first texts) ≡ first others
    → option_and_then query_days_of (first (cons_option (if found then date_text_of value else None) texts))
    ≡ first (cons_option (if found then query_days_of value else None) others)
step_date true value texts others later = step_days value (query_days_of value) texts others refl later
step_date false value texts others later = later

pub core_days : (pairs : List (List ℕ × List ℕ)) → option_and_then query_days_of (core_date pairs) ≡ first_days pairs
core_days [] = refl
core_days (pair ∷ pairs) =
    step_date (has_key (codes "rft.date") pair) (trimmed pair.1) (filter_map date_of_pair pairs) (filter_map days_of_pair pairs) (core_days pairs)

step_number : (value : List ℕ) (number : Option ℕ) (texts : List (List ℕ)) (others : List ℕ) → volume_of value ≡ number
    → option_and_then volume_of (first texts) ≡ first others
    → option_and_then volume_of (first (cons_option (if is_some number then Some value else None) texts)) ≡ first (cons_option number others)
step_number value None texts others read later = later
step_number value (Some number) texts others read later = read

step_volume : (found : Bool) (value : List ℕ) (texts : List (List ℕ)) (others : List ℕ) → option_and_then volume_of (first texts) ≡ first others
    → option_and_then volume_of (first (cons_option (if found then volume_text_of value else None) texts))
    ≡ first (cons_option (if found then volume_of value else None) others)
step_volume true value texts others later = step_number value (volume_of value) texts others refl later
step_volume false value texts others later = later

pub core_number : (pairs : List (List ℕ × List ℕ)) → option_and_then volume_of (core_volume pairs) ≡ first_volume pairs
core_number [] = refl
core_number (pair ∷ pairs) =
    step_volume (has_key (codes "rft.volume") pair) (trimmed pair.1) (filter_map volume_of_pair pairs) (filter_map core.volume_of_pair pairs) (core_number pairs)

-- a text of the core is chosen, so its days and its volume are those that the core reads
pub kept_days : (core other : Option (List ℕ)) (days : Option DayRange) → option_and_then query_days_of core ≡ days
    → IfSome days (λ d. option_and_then query_days_of (or_text core other) ≡ Some d)
kept_days core other None read = tt
kept_days None other (Some days) read = absurd (cc)
kept_days (Some text) other (Some days) read = read

pub kept_number : (core other : Option (List ℕ)) (number : Option ℕ) → option_and_then volume_of core ≡ number
    → IfSome number (λ n. option_and_then volume_of (or_text core other) ≡ Some n)
kept_number core other None read = tt
kept_number None other (Some number) read = absurd (cc)
kept_number (Some text) other (Some number) read = read
