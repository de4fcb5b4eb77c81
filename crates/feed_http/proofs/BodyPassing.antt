-- The part of a body that was passed, by its framing.
use Rattle.std.proofs.Common.{◌≡◌, ◌≤◌, ◌+◌, ℕ, List, ◌++◌, length, take, Result, Ok, Err, sym, ap, arith, ◌∙◌, append_assoc, subst}
use Rattle.std.proofs.lemmas.List.{append-nil, length-append, take_at, length-take-le}
use Rattle.httparse.specs.Grammar.{print_chunk_line, print_section}
use Rattle.feed_http_heads.specs.declared.http_fault.HttpFault.{HttpFault}
use Rattle.feed_http_heads.specs.declared.http_fault.HttpFault.TheVariants.{Read, Short, Memory}
use Rattle.feed_http.specs.Chunks.{bytes_of, print_chunks, IsBodyChunked, IsNotChunked}
use Rattle.feed_http.specs.declared.fetching.step.Step.{Step}
use Rattle.feed_http.specs.declared.fetching.step.Step.TheVariants as steps
use Rattle.feed_http.specs.declared.fetching.validation.Framing.{Framing}
use Rattle.feed_http.specs.declared.fetching.validation.Framing.TheVariants.{Chunked}
use Rattle.feed_http.specs.declared.fetching.body_machine.BodyMachine.{BodyMachine}
use Rattle.feed_http.specs.ArrivingChunks.{IsWholeChunked, HasPassed, IsStep}
use Rattle.feed_http.specs.Got.{IsBody}
use Rattle.feed_http.specs.ArrivingBodies.{HasPassedBody, IsBodyStep, IsWholeBody, BodyEndsAs}

-- a text that is a chunked body begins with it, whatever follows
pub whole_chunked : (text body more : List ℕ) → IsWholeChunked text body → IsBodyChunked body (text ++ more)
whole_chunked text body more p = (
  p.chunks,
  record {
    valid = p.valid;
    last = p.is.last;
    last_valid = p.is.valid;
    size = p.is.size;
    fields = p.is.fields;
    end = p.is.end;
    trailers = p.is.trailers;
    rest = more;
    text_is = ap (λ t. t ++ more) p.text_is ∙ append_assoc (print_chunks p.chunks) p.front more
        ∙ ap (λ t. print_chunks p.chunks ++ t)
        (ap (λ t. t ++ more) p.is.front_is ∙ append_assoc (print_chunk_line p.is.last) (print_section p.is.fields p.is.end) more);
  },
  p.body_is ∙ ap (λ t. bytes_of p.chunks ++ t) p.is.part_is ∙ append-nil (bytes_of p.chunks),
)

-- a chunked body in a machine for any
as_passed : (m : BodyMachine) (text body : List ℕ) → m.framing ≡ Chunked → HasPassed m.chunks text body → HasPassedBody m.framing m text body
as_passed m text body e at = subst (λ (f : Framing). HasPassedBody f m text body) (sym e) at

as_body : (m : BodyMachine) (text : List ℕ) (result : Result (List ℕ) HttpFault) → m.framing ≡ Chunked → IsBody Chunked m.chunks.bounds.least m.chunks.bounds.most text result
    → IsBody m.framing m.chunks.bounds.least m.chunks.bounds.most text result
as_body m text result e is = subst (λ (f : Framing). IsBody f m.chunks.bounds.least m.chunks.bounds.most text result) (sym e) is

-- a fault of chunks is one of the body
fault_of : (least most : ℕ) (text : List ℕ) (fault : HttpFault) → IsNotChunked least most fault text → IsBody Chunked least most text (Err fault)
fault_of least most text Read is = tt
fault_of least most text _ is = is

pub chunk_step : (m : BodyMachine) (text body bytes : List ℕ) (step : Step) → m.framing ≡ Chunked → IsStep m.chunks text body bytes step → IsBodyStep m text body bytes step
chunk_step m text body bytes (steps.Skip count) e is = as_passed m (text ++ take count bytes) body e is
chunk_step m text body bytes (steps.Body count) e (at, full) = (
  as_passed m (text ++ take count bytes) (body ++ take count bytes) e at,
  λ more. as_body m (text ++ (bytes ++ more)) (Err Memory) e (full more),
)
chunk_step m text body bytes steps.Wait e (at, short) = (
  as_passed m text body e at,
  λ result ends.
      let is : result ≡ Err Short = subst (λ (f : Framing). BodyEndsAs f m.chunks.bounds.least body result) e ends in
      as_body m (text ++ bytes) result e (subst (λ (r : Result (List ℕ) HttpFault). IsBody Chunked m.chunks.bounds.least m.chunks.bounds.most (text ++ bytes) r) (sym is) short),
)
chunk_step m text body bytes steps.Done e (at, whole, least, most) =
    (as_passed m text body e at, subst (λ (f : Framing). IsWholeBody f text) (sym e) (body, whole), λ more. as_body m (text ++ more) (Ok body) e (least, most, whole_chunked text body more whole))
chunk_step m text body bytes (steps.Fault fault) e is = λ more.
    as_body m (text ++ (bytes ++ more)) (Err fault) e (fault_of m.chunks.bounds.least m.chunks.bounds.most (text ++ (bytes ++ more)) fault (is more))

-- bytes of a body by its length
pub sized_done : (size : ℕ) (text body more : List ℕ) → body ≡ text → length text ≡ size → (size ≤ length (text ++ more)) × (body ≡ take size (text ++ more))
sized_done size text body more e l =
    ((let a = length-append text more in omega (arith, a, l)), e ∙ sym (take_at text more size l))

pub appended : (text body bytes : List ℕ) (arrived count : ℕ) → body ≡ text → arrived ≡ length text → count ≤ length bytes
    → (body ++ take count bytes ≡ text ++ take count bytes) × (arrived + count ≡ length (text ++ take count bytes))
appended text body bytes arrived count e l fits =
    (ap (λ t. t ++ take count bytes) e, (let a = length-append text (take count bytes) in let b = length-take-le count bytes fits in omega (arith, a, b, l)))
