-- How an OpenURL is understood.
use Rattle.std.specs.Prelude.{◌≡◌, ◌<◌, ◌≤◌, ℕ, List, Option, Some, None, IfSome}
use Rattle.std.specs.List.{All}
use Rattle.form_urlencoded.specs.Form as form
use Rattle.feed_identifiers.specs.Isbn.{isbn_of}
use Rattle.feed_identifiers.specs.Issn.{issn_of}
use Rattle.feed_answer.specs.IdentifierSet.{IsAscending}
use Rattle.feed_openurl.specs.Identifiers.{LookedUp, count, identifier_limit, looked_up}
use Rattle.feed_openurl.specs.Texts.{IsDateText, IsVolumeText}
use Rattle.feed_openurl.specs.Tiers.{date_of, volume_of}
use Rattle.feed_openurl.specs.declared.fault.OpenUrlFault.{OpenUrlFault}

-- the printed form of an ISSN parses as itself, and that of an ISBN
abbrev pub IsIssnText : List ℕ → Type 0
IsIssnText text = issn_of text ≡ Some text

abbrev pub IsIsbnText : List ℕ → Type 0
IsIsbnText text = isbn_of text ≡ Some text

-- the printed forms of identifiers, ascending and each once
pub record AreIdentifiers (issns isbns : List (List ℕ)) : Type 0 where
  pub issns_ascend : IsAscending issns
  pub isbns_ascend : IsAscending isbns
  pub issns_parse : All IsIssnText issns
  pub isbns_parse : All IsIsbnText isbns

-- how an OpenURL is understood: the identifiers to look up, the texts of the date and of the volume, or why it is
-- refused
pub record OpenUrlValue : Type 0 where
  pub issns : List (List ℕ)
  pub isbns : List (List ℕ)
  pub date : Option (List ℕ)
  pub volume : Option (List ℕ)
  pub refusal : Option OpenUrlFault

-- an OpenURL that is refused has no identifiers; another has some, and at most the limit
abbrev pub IsCounted : List (List ℕ) → List (List ℕ) → Option OpenUrlFault → Type 0
IsCounted issns isbns (Some refusal) = count issns isbns ≡ 0
IsCounted issns isbns None = (0 < count issns isbns) × (count issns isbns ≤ identifier_limit)

-- what holds of every OpenURL as it is understood
pub record IsWellFormed (u : OpenUrlValue) : Type 0 where
  pub identifiers : AreIdentifiers u.issns u.isbns
  pub counted : IsCounted u.issns u.isbns u.refusal
  pub date : IfSome u.date IsDateText
  pub volume : IfSome u.volume IsVolumeText

-- what is looked up, with a date and a volume
abbrev pub with_dates : LookedUp → Option (List ℕ) → Option (List ℕ) → OpenUrlValue
with_dates found date volume =
    record { issns = found.issns; isbns = found.isbns; date = date; volume = volume; refusal = found.refusal }

-- how the pairs of an OpenURL are understood
abbrev pub understood_pairs : List (List ℕ × List ℕ) → OpenUrlValue
understood_pairs pairs = with_dates (looked_up pairs) (date_of pairs) (volume_of pairs)

-- how an OpenURL is understood
abbrev pub understood : List ℕ → OpenUrlValue
understood text = understood_pairs (form.parse text)
