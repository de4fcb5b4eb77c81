-- The query of the core for what is understood is of its identifiers, since these are sets.
use Rattle.std.proofs.Common.{◌≡◌, ◌∙◌, ℕ, List, Option, None, Ok, ap, sym}
use Rattle.std.specs.Option.{option_and_then}
use Rattle.feed_answer.specs.IdentifierSet.{identifier_set}
use Rattle.feed_answer.specs.QueryValue.{QueryValue, query_with}
use Rattle.feed_dates.specs.DayRanges.{query_days_of}
use Rattle.feed_dates.specs.declared.day_range.DayRange.{DayRange}
use Rattle.feed_kbart.specs.Volumes.{volume_of}
use Rattle.feed_openurl.specs.Queries.{asked_as, asked_by, query_for}
use Rattle.feed_openurl.specs.Values.{AreIdentifiers, OpenUrlValue}
use Rattle.feed_openurl.proofs.Written.{set_of_ascending}

abbrev query_of_parts : List (List ℕ) → List (List ℕ) → Option DayRange → Option ℕ → QueryValue
query_of_parts issns isbns days volume = record { issns = issns; isbns = isbns; days = days; volume = volume }

pub query_is : (u : OpenUrlValue) (query : QueryValue) (issns isbns : List (List ℕ)) (days : Option DayRange) (volume : Option ℕ)
    → query ≡ query_with issns isbns days volume → issns ≡ u.issns → isbns ≡ u.isbns → AreIdentifiers u.issns u.isbns
    → days ≡ option_and_then query_days_of u.date → volume ≡ option_and_then volume_of u.volume → query ≡ query_for u
query_is u query issns isbns days volume is same_issns same_isbns are same_days same_volume =
    is
    ∙ ap (λ l. query_with l isbns days volume) same_issns ∙ ap (λ l. query_with u.issns l days volume) same_isbns
    ∙ ap (λ l. query_of_parts l (identifier_set u.isbns) days volume) (set_of_ascending u.issns are.issns_ascend)
    ∙ ap (λ l. query_of_parts u.issns l days volume) (set_of_ascending u.isbns are.isbns_ascend)
    ∙ ap (λ d. query_of_parts u.issns u.isbns d volume) same_days
    ∙ ap (query_of_parts u.issns u.isbns (option_and_then query_days_of u.date)) same_volume

pub asked_is : (u : OpenUrlValue) (query : QueryValue) → query ≡ query_for u → u.refusal ≡ None → Ok query ≡ asked_by u
asked_is u query is none = ap Ok is ∙ sym (ap (λ o. asked_as o (query_for u)) none)
