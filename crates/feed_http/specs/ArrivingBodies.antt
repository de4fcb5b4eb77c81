-- The body of a response, as a whole and while it arrives (RFC 9112, section 6.3).
use Rattle.std.specs.Prelude.{◌≡◌, ◌<◌, ◌≤◌, ◌⊎◌, ℕ, List, ◌++◌, length, take, Result, Ok, Err}
use Rattle.feed_http_heads.specs.declared.http_fault.HttpFault.{HttpFault}
use Rattle.feed_http_heads.specs.declared.http_fault.HttpFault.TheVariants.{Short, Memory}
use Rattle.feed_http.specs.declared.fetching.validation.Framing.{Framing}
use Rattle.feed_http.specs.declared.fetching.validation.Framing.TheVariants.{Chunked, Sized, ToEnd}
use Rattle.feed_http.specs.declared.fetching.body_machine.BodyMachine.{BodyMachine}
use Rattle.feed_http.specs.declared.fetching.step.Step.{Step}
use Rattle.feed_http.specs.declared.fetching.step.Step.TheVariants as steps
use Rattle.feed_http.specs.Got.{IsBody}
use Rattle.feed_http.specs.ArrivingChunks.{HasPassed, IsWholeChunked}

-- the machine has passed this text of the body, which has these bytes
abbrev pub HasPassedBody : Framing → BodyMachine → List ℕ → List ℕ → Type 0
HasPassedBody Chunked machine text body = HasPassed machine.chunks text body
HasPassedBody (Sized size) machine text body = (body ≡ text) × (machine.arrived ≡ length text) × (machine.arrived ≤ size)
HasPassedBody ToEnd machine text body = (body ≡ text) × (machine.arrived ≡ length text) × (machine.arrived ≤ machine.chunks.bounds.most)

-- what the stream's end would make of the text
abbrev pub BodyEndsAs : Framing → ℕ → List ℕ → Result (List ℕ) HttpFault → Type 0
BodyEndsAs ToEnd least body result = ((length body < least) × (result ≡ Err Short)) ⊎ ((least ≤ length body) × (result ≡ Ok body))
BodyEndsAs _ least body result = result ≡ Err Short

-- the text is a body with this framing, and nothing more; a body to the end of the stream has no end in its bytes
abbrev pub IsWholeBody : Framing → List ℕ → Type 0
IsWholeBody Chunked text = (body : List ℕ) × IsWholeChunked text body
IsWholeBody (Sized size) text = length text ≡ size
IsWholeBody ToEnd text = ⊥

-- behind this text and this body, with these bytes at hand; each fault and the whole body are what the definition says,
-- whatever follows
abbrev pub IsBodyStep : BodyMachine → List ℕ → List ℕ → List ℕ → Step → Type 0
IsBodyStep new text body bytes (steps.Skip count) = HasPassedBody new.framing new (text ++ take count bytes) body
IsBodyStep new text body bytes (steps.Body count) =
    HasPassedBody new.framing new (text ++ take count bytes) (body ++ take count bytes)
    × ((more : List ℕ) → IsBody new.framing new.chunks.bounds.least new.chunks.bounds.most (text ++ (bytes ++ more)) (Err Memory))
IsBodyStep new text body bytes steps.Wait =
    HasPassedBody new.framing new text body
    × ((result : Result (List ℕ) HttpFault) → BodyEndsAs new.framing new.chunks.bounds.least body result
    → IsBody new.framing new.chunks.bounds.least new.chunks.bounds.most (text ++ bytes) result)
IsBodyStep new text body bytes steps.Done =
    HasPassedBody new.framing new text body × IsWholeBody new.framing text
    × ((more : List ℕ) → IsBody new.framing new.chunks.bounds.least new.chunks.bounds.most (text ++ more) (Ok body))
IsBodyStep new text body bytes (steps.Fault fault) =
    (more : List ℕ) → IsBody new.framing new.chunks.bounds.least new.chunks.bounds.most (text ++ (bytes ++ more)) (Err fault)
