-- The exchanges of a fetch with an honest server, for any caller of the fetch.
use Rattle.std.specs.Prelude.{◌≡◌, ◌≤◌, ◌+◌, ℕ, zero, suc, List, length, None, IsTrue, Result, Ok, Err}
use Rattle.std.specs.Int.{div_ceil}
use Rattle.feed_names.specs.ReleaseName.{Name}
use Rattle.feed_limits.specs.Limits.{piece_limit}
use Rattle.feed_dial.specs.Responses.{Responses}
use Rattle.feed_http.specs.RequestTexts.{is_host}
use Rattle.feed_http.specs.declared.fetching.got.Got.{Got}
use Rattle.feed_model.specs.History.{History, kept}
use Rattle.feed_model.specs.Content.{Recorded, IsContent}
use Rattle.feed_fetch.specs.declared.machine.Next.{Next}
use Rattle.feed_fetch.specs.declared.machine.Next.TheVariants.{Ask, Done}
use Rattle.feed_fetch.specs.declared.machine.Phase.{Phase}
use Rattle.feed_fetch.specs.declared.machine.Phase.TheVariants as phases
use Rattle.feed_fetch.specs.declared.machine.FetchRequest.{FetchRequest}
use Rattle.feed_fetch.specs.declared.stop.RequestFault.{RequestFault}
use Rattle.feed_fetch.specs.declared.stop.Stop.{Stop}
use Rattle.feed_fetch.specs.Answers.{IsExcused}
use Rattle.feed_fetch.specs.Effects.{ServesFile, IsFetchable, IsOpenTo, IsOpened, IsFilled, IsReported}
use Rattle.feed_fetch.specs.Gaps.{requests_of}
use Rattle.feed_fetch.specs.Steps.{IsNextStep, IsResponseOf, HasLength, HasRange}

-- the first response opens the fetch of each file whose length it has
abbrev pub Opens : Name → Phase → Result Got RequestFault → Result (Unit {0}) Stop → Recorded → Recorded → Type 0
Opens n phase reply result c d = (file : List ℕ) → phase ≡ phases.New → HasLength file reply → IsFetchable file → IsOpened n file result c d

-- each further response fills the range of each file that it has
abbrev pub Fills : Name → Phase → Result Got RequestFault → Result (Unit {0}) Stop → Recorded → Recorded → Type 0
Fills n phase reply result c d =
    (file : List ℕ) (piece first last : ℕ) → phase ≡ phases.Offered → HasRange file first last reply → IsFetchable file → IsFilled n file piece first last result c d

-- one exchange: `next` returns a request, the server responds to it, and `take` takes the response
pub record IsExchange (replies : Responses) (host : List ℕ) (n : Name) (piece : ℕ) (phase : Phase) (result : Result (Unit {0}) Stop) (c d : Recorded) : Type 0 where
  pub request : FetchRequest
  pub asks : (h : History) → IsContent c h → IsNextStep n piece phase h (Ask request)
  pub reply : Result Got RequestFault
  pub replied : IsResponseOf replies host n request reply
  pub opens : Opens n phase reply result c d
  pub fills : Fills n phase reply result c d

-- this many exchanges; none of them stopped the fetch, and between them the feed does not change
abbrev pub AreExchanges : Responses → List ℕ → Name → ℕ → ℕ → Phase → Recorded → Phase → Recorded → Type 0
AreExchanges replies host n piece zero p c q d = (q ≡ p) × (d ≡ c)
AreExchanges replies host n piece (suc count) p c q d =
    (phase : Phase) × (between : Recorded) × AreExchanges replies host n piece count p c phase between
    × IsExchange replies host n piece phase (Ok tt) between d × (q ≡ phases.Offered)

-- a fetch of a good file from a server that has it, by a feed that is open to it
pub record IsHonestFetch (replies : Responses) (host : List ℕ) (n : Name) (file : List ℕ) (piece : ℕ) (c : Recorded) (h : History) : Type 0 where
  pub host_is : IsTrue (is_host host)
  pub serves : ServesFile replies n file
  pub fit : IsFetchable file
  pub least : 1 ≤ piece
  pub most : piece ≤ piece_limit
  pub content : IsContent c h
  pub ready : IsOpenTo c.most n file h

-- there are never more exchanges than one for the length and one for each piece of each gap
abbrev pub IsBounded : Responses → Type 0
IsBounded replies =
    (host : List ℕ) (n : Name) (file : List ℕ) (piece count : ℕ) (c d : Recorded) (phase : Phase) (h : History)
    → IsHonestFetch replies host n file piece c h → AreExchanges replies host n piece count phases.New c phase d → count ≤ 1 + requests_of n file piece h

-- `next` returns `Done` exactly after that many, and the release is then reported
abbrev pub IsEnding : Responses → Type 0
IsEnding replies =
    (host : List ℕ) (n : Name) (file : List ℕ) (piece count : ℕ) (c d : Recorded) (phase : Phase) (h : History)
    → IsHonestFetch replies host n file piece c h → AreExchanges replies host n piece count phases.New c phase d
    → (next : Next) → ((k : History) → IsContent d k → IsNextStep n piece phase k next)
    → (count ≡ 1 + requests_of n file piece h → next ≡ Done)
    × (next ≡ Done → (count ≡ 1 + requests_of n file piece h) × ((k : History) × IsContent d k × IsReported n k))

-- an exchange that stops the fetch is excused
abbrev pub IsExcusedAlone : Responses → Type 0
IsExcusedAlone replies =
    (host : List ℕ) (n : Name) (file : List ℕ) (piece count : ℕ) (c d e : Recorded) (phase : Phase) (h : History) (stop : Stop)
    → IsHonestFetch replies host n file piece c h → AreExchanges replies host n piece count phases.New c phase d
    → IsExchange replies host n piece phase (Err stop) d e → IsExcused stop

-- from nothing stored, these are the requests for the whole file
abbrev pub NeedsWhole : Type 0
NeedsWhole = (n : Name) (file : List ℕ) (piece : ℕ) (h : History) → ((place : ℕ) → kept h n place ≡ None) → requests_of n file piece h ≡ div_ceil (length file) piece
