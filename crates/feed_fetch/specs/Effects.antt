-- The effect of a fetch on a feed.
use Rattle.std.specs.Prelude.{Bool, ◌≡◌, ◌<◌, ◌≤◌, ◌+◌, ◌⊎◌, ◌++◌, ℕ, suc, List, length, slice_range, slice_get, All, Option, None, Some, Result, Ok, Err, IfSome, IfErr, MatchResult}
use Rattle.feed_names.specs.ReleaseName.{Name, IsName}
use Rattle.feed_http.specs.RequestTexts.{get_text, head_request_text}
use Rattle.feed_names.specs.ReleaseName.{text_of}
use Rattle.feed_http.specs.declared.fetching.got.Method.TheVariants.{Get, Head}
use Rattle.feed_http.specs.declared.fetching.got.Got.{Got}
use Rattle.feed_http.specs.declared.fetching.got.Got.TheVariants as got
use Rattle.feed_http.specs.Shelves.{Files}
use Rattle.feed_dial.specs.declared.DialFault.{DialFault}
use Rattle.feed_dial.specs.Responses.{Responses, Unknown, Known, IfKnown}
use Rattle.feed_fetch.specs.Servers.{IsServer, IsResponded}
use Rattle.feed_fetch.specs.declared.stop.Stop.{Stop}
use Rattle.feed_fetch.specs.Answers.{HasCause, IsExcused, IsStoppedAt, status_of}
use Rattle.feed_model.specs.File.{fault_of}
use Rattle.feed_model.specs.History.{Event, Offered, Piece, Lost, History, size_of, kept, IsFile, IsPassed, IsHeld, Reports}
use Rattle.feed_model.specs.Reply.{HoldsNumber, missing_below, max_file, max_piece}
use Rattle.feed_model.specs.Content.{Recorded, IsContent}
use Rattle.feed_releases.specs.NextRange.{IsNext, IsNextRange}
use Rattle.feed_fetch.specs.Gaps.{requests_of}

-- exactly the piece that the response gave, or some range of the complete file that it gave, with its length
abbrev pub IsPieceOf : Got → ℕ → Option ℕ → List ℕ → Type 0
IsPieceOf (got.Piece place size all) first total bytes = (first ≡ place) × (total ≡ size) × (bytes ≡ all)
IsPieceOf (got.Whole all) first total bytes = (total ≡ Some (length all)) × (first + length bytes ≤ length all) × (bytes ≡ slice_range all first (first + length bytes))
IsPieceOf _ first total bytes = ⊥

-- a piece of the release, as the response gave it
abbrev pub IsTakenFrom : Name → Got → Event → Type 0
IsTakenFrom n given (Piece m first total bytes) = (m ≡ n) × IsPieceOf given first total bytes
IsTakenFrom n given _ = ⊥

-- the offer of the release, with the length that a response gave; a piece of it, as a response gave it; or its loss
abbrev pub IsFetchEvent : Responses → List ℕ → Name → Event → Type 0
IsFetchEvent replies host n (Offered m size) = (m ≡ n) × IfKnown replies (λ IsResponseTo. IsResponded IsResponseTo Head (head_request_text host (text_of n)) (Ok (got.Size size)))
IsFetchEvent replies host n (Piece m first total bytes) =
    (m ≡ n) × IfKnown replies (λ IsResponseTo. (low high : ℕ) × (given : Got) × IsResponded IsResponseTo Get (get_text host (text_of n) low high) (Ok given) × IsPieceOf given first total bytes)
IsFetchEvent replies host n (Lost m) = m ≡ n

-- for every history that has the content c, c' is a content of it with more events added, each of them permitted, and
-- the result meets the condition
abbrev pub IsExtension : (Event → Type 0) → (History → Type 0) → Recorded → Recorded → Type 0
IsExtension IsOne Stands c c' =
    (h : History) → IsContent c h → (added : History) × All (λ event. IsOne event.0) added × Stands (added ++ h) × IsContent c' (added ++ h)

-- for every history that has the content c and meets the first condition, c' is a content of one that is related to it
abbrev pub IsTransition : (History → Type 0) → (History → History → Type 0) → Recorded → Recorded → Type 0
IsTransition Before After c c' = (h : History) → IsContent c h → Before h → (k : History) × After h k × IsContent c' k

-- the release is reported
abbrev pub IsReported : Name → History → Type 0
IsReported n h = Reports h n.package_name (Some n)

-- the release is reported, or a later one is
abbrev pub IsCurrent : Name → History → Type 0
IsCurrent n h = IsReported n h ⊎ IsPassed h n

-- no range of the release is to be requested
abbrev pub IsAllFetched : Name → History → Type 0
IsAllFetched n h = IsNextRange h n 1 None

-- the status after a stop is that of the stop; without one nothing is left to request, and it is 0 if the release is
-- reported, otherwise 1
abbrev pub IsStatusAfter : Name → Result (Unit {0}) Stop → ℕ → History → Type 0
IsStatusAfter n (Ok done) status k = IsAllFetched n k × (((status ≡ 0) × IsReported n k) ⊎ ((status ≡ 1) × ¬ (IsReported n k)))
IsStatusAfter n (Err stop) status k = status ≡ status_of stop

-- a fetch ends with this status: 0 only if the release is reported, or a later one. It is that of the fetch's stop, if
-- there is one, with which the feed, the prints and the connections agree
abbrev pub EndsWithStatus : Name → ℕ → Bool → Option DialFault → History → Type 0
EndsWithStatus n status unprinted refused k =
    (status ≡ 0 → IsCurrent n k) × ((outcome : Result (Unit {0}) Stop) × IfErr outcome (λ stop. IsStoppedAt n stop k × HasCause unprinted refused stop) × IsStatusAfter n outcome status k)

-- the responses of a peer are known, and it serves this file of the release
abbrev pub ServesFile : Responses → Name → List ℕ → Type 0
ServesFile Unknown n file = ⊥
ServesFile (Known IsResponseTo) n file = (files : Files) × IsServer files IsResponseTo × (files n ≡ Some file) × IsName (text_of n) n

-- a file that a release may have, and that is good
pub record IsFetchable (file : List ℕ) : Type 0 where
  pub small : length file ≤ max_file
  pub good : fault_of file ≡ None

-- the stored bytes of the release are those of this file
abbrev pub IsOfFile : Name → List ℕ → History → Type 0
IsOfFile n file h = (place byte : ℕ) → kept h n place ≡ Some byte → slice_get file place ≡ Some byte

-- the release may be offered with this file to a feed that holds at most this many. No later release is active, and the
-- stored bytes of the release are those of the file. Its size agrees if it was recorded; otherwise there is room for it
pub record IsOpenTo (most : ℕ) (n : Name) (file : List ℕ) (h : History) : Type 0 where
  pub current : ¬ (IsPassed h n)
  pub size : IfSome (size_of h n) (λ size. size ≡ length file)
  pub bytes : IsOfFile n file h
  pub room : IsHeld h n ⊎ (¬ (HoldsNumber h most))

-- it was offered, and its stored bytes are those of the file
pub record IsFilling (n : Name) (file : List ℕ) (h : History) : Type 0 where
  pub current : ¬ (IsPassed h n)
  pub size : size_of h n ≡ Some (length file)
  pub bytes : IsOfFile n file h

-- the next missing range of it is requested, by requests of at most this many places
pub record IsAskedNext (n : Name) (file : List ℕ) (piece first last : ℕ) (h : History) : Type 0 where
  pub filling : IsFilling n file h
  pub least : 1 ≤ piece
  pub most : piece ≤ max_piece
  pub next : IsNext (kept h n) (length file) piece first last

-- the number of missing places of the file
abbrev pub missing_of : Name → List ℕ → History → ℕ
missing_of n file h = missing_below (kept h n) (length file)

-- this holds, unless an excused stop ended the call
abbrev pub OrExcused : Result (Unit {0}) Stop → Type 0 → Type 0
OrExcused result stands = MatchResult result (λ done. stands) IsExcused

-- the offer is recorded, and no byte is lost by it
abbrev pub IsOpened : Name → List ℕ → Result (Unit {0}) Stop → Recorded → Recorded → Type 0
IsOpened n file result c =
    IsTransition (IsOpenTo c.most n file) (λ h k. OrExcused result (IsFilling n file k × ((place : ℕ) → kept k n place ≡ kept h n place))) c

-- the requested range is filled: fewer places are missing, and exactly one request fewer is needed
abbrev pub IsFilled : Name → List ℕ → ℕ → ℕ → ℕ → Result (Unit {0}) Stop → Recorded → Recorded → Type 0
IsFilled n file piece first last result =
    IsTransition (IsAskedNext n file piece first last)
    (λ h k. OrExcused result (IsFilling n file k × (missing_of n file k < missing_of n file h) × (requests_of n file piece h ≡ suc (requests_of n file piece k))))

abbrev pub IsFetched : Name → List ℕ → Result (Unit {0}) Stop → Recorded → Recorded → Type 0
IsFetched n file result c = IsTransition (IsOpenTo c.most n file) (λ h k. OrExcused result (IsFilling n file k × IsFile k n file)) c

-- after this many requests, each for a whole range
abbrev pub IsFilledAfter : Name → List ℕ → ℕ → ℕ → Recorded → Recorded → Type 0
IsFilledAfter n file piece count c =
    IsTransition (IsOpenTo c.most n file) (λ h k. IsFilling n file k × (count + requests_of n file piece k ≡ requests_of n file piece h)) c
