-- The steps of a fetch.
use Rattle.std.specs.Prelude.{◌≡◌, ℕ, Bool, ◌+◌, List, length, Some, None, Result, Ok, Err, MatchResult}
use Rattle.std.specs.Prelude.{slice_range}
use Rattle.feed_names.specs.ReleaseName.{Name, text_of}
use Rattle.feed_dial.specs.Responses.{Responses, IfKnown}
use Rattle.feed_http.specs.RequestTexts.{get_text, head_request_text}
use Rattle.feed_http.specs.declared.fetching.got.Method.TheVariants.{Get, Head}
use Rattle.feed_http.specs.declared.fetching.got.Got.{Got}
use Rattle.feed_http.specs.declared.fetching.got.Got.TheVariants as got
use Rattle.feed_model.specs.History.{Event, Offered, Piece, Lost, History}
use Rattle.feed_releases.specs.NextRange.{IsNextRange}
use Rattle.feed_fetch.specs.declared.machine.Next.{Next}
use Rattle.feed_fetch.specs.declared.machine.Next.TheVariants.{Ask, Done}
use Rattle.feed_fetch.specs.declared.machine.Phase.{Phase}
use Rattle.feed_fetch.specs.declared.machine.Phase.TheVariants as phases
use Rattle.feed_fetch.specs.declared.machine.FetchRequest.TheVariants as requests
use Rattle.feed_fetch.specs.declared.machine.FetchRequest.{FetchRequest}
use Rattle.feed_fetch.specs.declared.stop.RequestFault.{RequestFault}
use Rattle.feed_fetch.specs.Servers.{IsReadOf}
use Rattle.feed_fetch.specs.declared.stop.Stop.{Stop}
use Rattle.feed_fetch.specs.declared.stop.Stop.TheVariants as stops
use Rattle.feed_fetch.specs.Answers.{IsExcused}
use Rattle.feed_fetch.specs.Effects.{IsPieceOf}

-- the phase after a response
abbrev pub phase_after : Result (Unit {0}) Stop → Phase
phase_after (Ok done) = phases.Offered
phase_after (Err stop) = phases.Stopped

-- the same after a part of a file that is still arriving
abbrev pub phase_after_part : Phase → Result Bool Stop → Phase
phase_after_part phase (Ok is_new) = phase
phase_after_part phase (Err stop) = phases.Stopped

-- a piece was taken, new or not
abbrev pub without_news : Result Bool Stop → Result (Unit {0}) Stop
without_news (Ok is_new) = Ok tt
without_news (Err stop) = Err stop

-- the bytes that have arrived of a whole file of this length, from this place on; the rest of the file may never arrive
abbrev pub IsArrivedPart : List ℕ → ℕ → ℕ → List ℕ → Type 0
IsArrivedPart file first size bytes = IsPieceOf (got.Whole file) first (Some size) bytes

-- the next need of a fetch: the length; then a range exactly if it is the next missing one, and nothing exactly if none
-- is missing; after a stop nothing
abbrev pub IsNextStep : Name → ℕ → Phase → History → Next → Type 0
IsNextStep n piece phases.New h next = next ≡ Ask requests.Length
IsNextStep n piece phases.Offered h (Ask (requests.Range first last)) = IsNextRange h n piece (Some (first, last))
IsNextStep n piece phases.Offered h (Ask requests.Length) = ⊥
IsNextStep n piece phases.Offered h Done = IsNextRange h n piece None
IsNextStep n piece phases.Stopped h next = next ≡ Done

-- an event of the release that a response gives: first the offer of the length that it states, then a piece as it gives
-- it, and a loss if there is none
abbrev pub IsResponseEvent : Name → Phase → Result Got RequestFault → Event → Type 0
IsResponseEvent n phases.New (Ok given) (Offered m size) = (m ≡ n) × (given ≡ got.Size size)
IsResponseEvent n phases.Offered (Ok given) (Piece m first total bytes) = (m ≡ n) × IsPieceOf given first total bytes
IsResponseEvent n phase (Err why) (Lost m) = m ≡ n
IsResponseEvent n phase reply event = ⊥

-- the response has the length of the file, or an excuse
abbrev pub HasLength : List ℕ → Result Got RequestFault → Type 0
HasLength file reply = MatchResult reply (λ given. given ≡ got.Size (length file)) (λ why. IsExcused (stops.Request why))

-- the response has this range of the file, or an excuse
abbrev pub HasRange : List ℕ → ℕ → ℕ → Result Got RequestFault → Type 0
HasRange file first last reply =
    MatchResult reply (λ given. given ≡ got.Piece first (Some (length file)) (slice_range file first (last + 1))) (λ why. IsExcused (stops.Request why))

-- the bytes of a request for the file of this name
abbrev pub request_text : List ℕ → List ℕ → FetchRequest → List ℕ
request_text host name requests.Length = head_request_text host name
request_text host name (requests.Range first last) = get_text host name first last

-- what is known of the result of a request
abbrev pub IsResponseOf : Responses → List ℕ → Name → FetchRequest → Result Got RequestFault → Type 0
IsResponseOf replies host n requests.Length result = IfKnown replies (λ IsResponseTo. IsReadOf IsResponseTo Head (head_request_text host (text_of n)) result)
IsResponseOf replies host n (requests.Range first last) result = IfKnown replies (λ IsResponseTo. IsReadOf IsResponseTo Get (get_text host (text_of n) first last) result)
