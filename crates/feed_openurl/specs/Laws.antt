-- Laws of OpenURLs as they are understood.
use Rattle.std.specs.Prelude.{◌≡◌, ◌≤◌, ℕ, Bool, length, List, [], ◌∷◌, ◌++◌, true, Option, Some, None, Ok, IfSome, codes}
use Rattle.std.specs.List.{list_any}
use Rattle.form_urlencoded.specs.Form as form
use Rattle.feed_answer.specs.IdentifierSet.{is_among}
use Rattle.std.specs.Option.{option_and_then}
use Rattle.feed_dates.specs.DayRanges.{query_days_of}
use Rattle.feed_kbart.specs.Volumes.{volume_of}
use Rattle.feed_answer.specs.Queries.{query_of}
use Rattle.feed_answer.specs.QueryValue.{QueryValue}
use Rattle.feed_bytes.specs.Trim.{trimmed}
use Rattle.feed_openurl.specs.Citations.{citation_of_pairs}
use Rattle.feed_openurl.specs.Dropped.{is_dropped}
use Rattle.feed_openurl.specs.Identifiers.{count, identifier_limit, identifiers_of, looked_up}
use Rattle.feed_openurl.specs.Keys.{is_name, mended}
use Rattle.feed_openurl.specs.Queries.{query_for}
use Rattle.feed_openurl.specs.Values.{IsWellFormed, OpenUrlValue, understood, understood_pairs}
use Rattle.feed_openurl.specs.Written.{written, written_limit}
use Rattle.feed_openurl.specs.declared.fault.OpenUrlFault.{OpenUrlFault}
use Rattle.feed_openurl.specs.declared.fault.OpenUrlFault.TheVariants.{NoIssn}

-- all of some identifiers are among others
abbrev pub AreAmong : List (List ℕ) → List (List ℕ) → Type 0
AreAmong some others = (one : List ℕ) → is_among one some ≡ true → is_among one others ≡ true

-- what an OpenURL that the core answers asks for is looked up: each of its identifiers, its days and its volume
pub record ContainsAnswer (q : QueryValue) (u : OpenUrlValue) : Type 0 where
  pub refusal : u.refusal ≡ None
  pub issns : AreAmong q.issns u.issns
  pub isbns : AreAmong q.isbns u.isbns
  pub days : IfSome q.days (λ days. option_and_then query_days_of u.date ≡ Some days)
  pub volume : IfSome q.volume (λ volume. option_and_then volume_of u.volume ≡ Some volume)

-- for every OpenURL that the core answers, unless it has more identifiers than the limit
abbrev pub AnsweredIsContained : Type 0
AnsweredIsContained = (text : List ℕ) (q : QueryValue)
    → query_of text ≡ Ok q → count (identifiers_of (form.parse text)).issns (identifiers_of (form.parse text)).isbns ≤ identifier_limit
    → ContainsAnswer q (understood text)

-- two pairs that change places change nothing of what is looked up
abbrev pub OrderIsFree : Type 0
OrderIsFree = (before after : List (List ℕ × List ℕ)) (first second : List ℕ × List ℕ)
    → looked_up (before ++ first ∷ second ∷ after) ≡ looked_up (before ++ second ∷ first ∷ after)

-- a pair whose key nobody reads changes nothing of how an OpenURL is understood
abbrev pub DroppedIsUnread : Type 0
DroppedIsUnread = (key value : List ℕ) → is_dropped key ≡ true
    → (before after : List (List ℕ × List ℕ)) → understood_pairs (before ++ (key, value) ∷ after) ≡ understood_pairs (before ++ after)

-- a key that may name a person or a library: a private one of OpenURL 0.1, or one of the requester or of private data
-- (Z39.88-2004, part 1)
abbrev pub names_people : List ℕ → Bool
names_people key =
    list_any (is_name (mended key))
    (codes "pid" ∷ codes "req_id" ∷ codes "req_ref" ∷ codes "req_ref_fmt" ∷ codes "req_val_fmt" ∷ codes "req_dat" ∷ codes "rft_dat" ∷ codes "rfe_dat" ∷ [])

-- such a key is never read
abbrev pub PeopleAreDropped : Type 0
PeopleAreDropped = (key : List ℕ) → names_people key ≡ true → is_dropped key ≡ true

-- the query that is written is short
abbrev pub WrittenIsShort : Type 0
WrittenIsShort = (u : OpenUrlValue) → IsWellFormed u → length (written u) ≤ written_limit

-- the core accepts what is written for an OpenURL that is not refused, and that asks for exactly its identifiers, its
-- date and its volume
abbrev pub WrittenIsAccepted : Type 0
WrittenIsAccepted =
    (u : OpenUrlValue) → IsWellFormed u → u.refusal ≡ None
    → query_of (written u) ≡ Ok (query_for u)

-- an OpenURL that is refused has nothing to look up once it is written, whatever the reason was
abbrev pub refusal_of_written : Option OpenUrlFault → Option OpenUrlFault
refusal_of_written (Some refusal) = Some NoIssn
refusal_of_written None = None

-- an understanding, as it is understood of what is written for it
abbrev pub of_written : OpenUrlValue → OpenUrlValue
of_written u =
    record { issns = u.issns; isbns = u.isbns; date = u.date; volume = u.volume; refusal = refusal_of_written u.refusal }

-- what is written is understood with the same identifiers, the same date and the same volume
abbrev pub WrittenIsUnderstood : Type 0
WrittenIsUnderstood = (u : OpenUrlValue) → IsWellFormed u → understood (written u) ≡ of_written u

-- a pair does not change the citation, wherever it is in an OpenURL
abbrev pub IsUncited : List ℕ × List ℕ → Type 0
IsUncited pair =
    (before after : List (List ℕ × List ℕ)) → citation_of_pairs (before ++ pair ∷ after) ≡ citation_of_pairs (before ++ after)

-- a value that is empty, or has spaces alone, is as if it were absent
abbrev pub BlankIsUncited : Type 0
BlankIsUncited = (key value : List ℕ) → trimmed value ≡ [] → IsUncited (key, value)

-- so is one whose key nobody reads
abbrev pub DroppedIsUncited : Type 0
DroppedIsUncited = (key value : List ℕ) → is_dropped key ≡ true → IsUncited (key, value)

-- what is written for what is written is the same text
abbrev pub WrittenIsItself : Type 0
WrittenIsItself = (u : OpenUrlValue) → IsWellFormed u → written (understood (written u)) ≡ written u
