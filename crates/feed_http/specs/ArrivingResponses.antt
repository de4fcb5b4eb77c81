-- A response while its bytes arrive, by the definition of a whole response.
use Rattle.std.specs.Prelude.{◌≡◌, ◌⊎◌, ℕ, Bool, true, false, List, [], ◌++◌, length, take, Option, Some, None, Result, Ok, Err, ⊤}
use Rattle.httparse.specs.Grammar.{ResponseHead}
use Rattle.feed_limits.specs.Limits.{file_limit}
use Rattle.feed_http_heads.specs.Limits.{head_limit, field_limit}
use Rattle.feed_http_heads.specs.ResponseHeads.{BeginsWithHeads}
use Rattle.feed_http_heads.specs.declared.http_fault.HttpFault.{HttpFault}
use Rattle.feed_http_heads.specs.declared.http_fault.HttpFault.TheVariants.{Read, Short, Length, BodyTooLong, Memory}
use Rattle.feed_http.specs.declared.fetching.body_machine.BodyMachine.{BodyMachine}
use Rattle.feed_http.specs.declared.fetching.step.Step.{Step}
use Rattle.feed_http.specs.declared.fetching.step.Step.TheVariants as steps
use Rattle.feed_http.specs.ArrivingHeads.{ArePassed}
use Rattle.feed_http.specs.ArrivingBodies.{HasPassedBody, IsWholeBody, BodyEndsAs}
use Rattle.feed_http.specs.declared.fetching.got.Method.{Method}
use Rattle.feed_http.specs.declared.fetching.got.Got.{Got}
use Rattle.feed_http.specs.declared.fetching.got.Got.TheVariants as got
use Rattle.feed_http.specs.declared.fetching.validation.Framing.TheVariants.{Chunked, Sized, ToEnd}
use Rattle.feed_http.specs.declared.fetching.validation.Announcement.{Announcement}
use Rattle.feed_http.specs.declared.fetching.validation.Announcement.TheVariants.{Missing, Unsatisfied, Size, Part, Whole}
use Rattle.feed_http.specs.declared.fetching.response_machine.Place.{Place}
use Rattle.feed_http.specs.declared.fetching.response_machine.Place.TheVariants as places
use Rattle.feed_http.specs.declared.fetching.response_machine.StreamEnd.{StreamEnd}
use Rattle.feed_http.specs.declared.fetching.response_machine.StreamEnd.TheVariants as streams
use Rattle.feed_http.specs.declared.fetching.response_machine.ResponseMachine.{ResponseMachine}
use Rattle.feed_http.specs.Announcements.{announcement_of}
use Rattle.feed_http.specs.Got.{IsResultOf}

-- behind the head of a body: this text of it was passed, with these bytes of the body
abbrev pub IsInBody : Announcement → BodyMachine → List ℕ → List ℕ → Type 0
IsInBody (Part first total count framing) machine text body =
    (machine.framing ≡ framing) × (machine.chunks.bounds.least ≡ count) × (machine.chunks.bounds.most ≡ count) × HasPassedBody framing machine text body
IsInBody (Whole framing) machine text body =
    (machine.framing ≡ framing) × (machine.chunks.bounds.least ≡ 0) × (machine.chunks.bounds.most ≡ file_limit) × HasPassedBody framing machine text body
IsInBody _ machine text body = (text ≡ []) × (body ≡ [])

-- the text begins with heads, and the last of them announces this; the bytes behind them were passed
pub record IsBehindHead (method : Method) (announced : Announcement) (machine : BodyMachine) (text body : List ℕ) : Type 0 where
  pub interim : List ResponseHead
  pub head : ResponseHead
  pub inner : List ℕ
  pub begins : BeginsWithHeads head_limit field_limit text interim head inner
  pub is : announcement_of method head ≡ Ok announced
  pub inside : IsInBody announced machine inner body

-- the text is what follows a head with this announcement, and nothing more
abbrev pub IsWholeInner : Result Announcement HttpFault → List ℕ → Type 0
IsWholeInner (Ok (Part first total count framing)) text = IsWholeBody framing text
IsWholeInner (Ok (Whole framing)) text = IsWholeBody framing text
IsWholeInner (Ok _) text = text ≡ []
IsWholeInner (Err fault) text = ⊥

-- the text is the heads of a response and its body, and nothing more
pub record IsWholeResponse (method : Method) (text : List ℕ) : Type 0 where
  pub interim : List ResponseHead
  pub head : ResponseHead
  pub inner : List ℕ
  pub begins : BeginsWithHeads head_limit field_limit text interim head inner
  pub whole : IsWholeInner (announcement_of method head) inner

-- a machine in this place has passed this text of a response, and passed on these bytes of its body
abbrev pub IsAtPlace : Method → Place → List ℕ → List ℕ → Type 0
IsAtPlace method (places.Heads heads) text body = ArePassed heads.passed text × (body ≡ [])
IsAtPlace method (places.Body announced machine) text body = IsBehindHead method announced machine text body

-- the same of a machine
abbrev pub HasPassedResponse : ResponseMachine → List ℕ → List ℕ → Type 0
HasPassedResponse machine text body = IsAtPlace machine.method machine.place text body

-- the result that was announced, with this body
abbrev pub got_of : Announcement → List ℕ → Got
got_of Missing body = got.Missing
got_of (Unsatisfied total) body = got.Unsatisfied total
got_of (Size length) body = got.Size length
got_of (Part first total count framing) body = got.Piece first total body
got_of (Whole framing) body = got.Whole body

-- the length of the whole file that a head announces, if it states one
abbrev pub stated_length : Announcement → Option ℕ
stated_length (Whole (Sized size)) = Some size
stated_length _ = None

abbrev pub file_length : Place → Option ℕ
file_length (places.Heads heads) = None
file_length (places.Body announced machine) = stated_length announced

-- the head announces a whole file, without its length
abbrev pub is_unsized : Place → Bool
is_unsized (places.Body (Whole Chunked) machine) = true
is_unsized (places.Body (Whole ToEnd) machine) = true
is_unsized _ = false

-- what the end of the stream makes of a response that waits; a body without a length ends only with a stream that was
-- closed
abbrev pub ResponseEndsAs : StreamEnd → Place → List ℕ → Result Got HttpFault → Type 0
ResponseEndsAs streams.Closed (places.Heads heads) body result = result ≡ Err Short
ResponseEndsAs streams.Closed (places.Body announced machine) body result =
    (BodyEndsAs machine.framing machine.chunks.bounds.least body (Err Short) × (result ≡ Err Short))
    ⊎ (BodyEndsAs machine.framing machine.chunks.bounds.least body (Ok body) × (result ≡ Ok (got_of announced body)))
ResponseEndsAs streams.Failed place body result = result ≡ Err Read
ResponseEndsAs streams.TimedOut place body result = result ≡ Err Read

-- the heads are not complete
abbrev pub IsBetweenHeads : Place → Type 0
IsBetweenHeads (places.Heads heads) = ⊤
IsBetweenHeads (places.Body announced machine) = ⊥

-- the result of a machine whose response is complete
abbrev pub IsResult : Place → List ℕ → Got → Type 0
IsResult (places.Heads heads) body given = ⊥
IsResult (places.Body announced machine) body given = given ≡ got_of announced body

-- behind this text and this body, with these bytes at hand: what a step reports is what the definition says of the
-- response
abbrev pub IsResponseStep : ResponseMachine → List ℕ → List ℕ → List ℕ → Step → Type 0
IsResponseStep new text body bytes (steps.Skip count) = HasPassedResponse new (text ++ take count bytes) body
IsResponseStep new text body bytes (steps.Body count) =
    HasPassedResponse new (text ++ take count bytes) (body ++ take count bytes) × ((more : List ℕ) → IsResultOf new.method (text ++ (bytes ++ more)) (Err Memory))
IsResponseStep new text body bytes steps.Wait =
    HasPassedResponse new text body × ((result : Result Got HttpFault) → ResponseEndsAs streams.Closed new.place body result → IsResultOf new.method (text ++ bytes) result)
IsResponseStep new text body bytes steps.Done =
    HasPassedResponse new text body × IsWholeResponse new.method text
    × ((given : Got) → IsResult new.place body given → (more : List ℕ) → IsResultOf new.method (text ++ more) (Ok given))
    × ¬ (IsBetweenHeads new.place)
IsResponseStep new text body bytes (steps.Fault fault) = (more : List ℕ) → IsResultOf new.method (text ++ (bytes ++ more)) (Err fault)

-- a part that is longer than its range has the wrong length
abbrev pub step_of_part : Step → Step
step_of_part (steps.Fault BodyTooLong) = steps.Fault Length
step_of_part step = step

-- what was taken of the bytes at hand was passed; the response is complete with it, or it needs more, and this is what
-- the end of the stream makes of it
abbrev pub IsResponseTaken : ResponseMachine → List ℕ → List ℕ → List ℕ → Bool → Type 0
IsResponseTaken new passed body rest true =
    HasPassedResponse new passed body × IsWholeResponse new.method passed
    × ((given : Got) → IsResult new.place body given → (more : List ℕ) → IsResultOf new.method (passed ++ more) (Ok given))
    × ¬ (IsBetweenHeads new.place)
IsResponseTaken new passed body rest false =
    HasPassedResponse new passed body × ((result : Result Got HttpFault) → ResponseEndsAs streams.Closed new.place body result → IsResultOf new.method (passed ++ rest) result)
