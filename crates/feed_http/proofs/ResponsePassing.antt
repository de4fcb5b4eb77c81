-- From the parts of a response to the whole one.
use Rattle.std.proofs.Common.{◌≡◌, ℕ, List, [], ◌++◌, take, drop, Option, Result, Ok, Err, refl, sym, ap, ◌∙◌, append_assoc, subst, inl, inr}
use Rattle.std.proofs.lemmas.List.{take-append-drop}
use Rattle.httparse.specs.Grammar.{ResponseHead, print_response}
use Rattle.feed_limits.specs.Limits.{file_limit}
use Rattle.feed_http_heads.specs.Limits.{head_limit, field_limit}
use Rattle.feed_http_heads.specs.ResponseHeads.{BeginsWithHeads, HasInterimAlone, IsNoResponse, print_heads}
use Rattle.feed_http_heads.specs.declared.http_fault.HttpFault.{HttpFault}
use Rattle.feed_http_heads.specs.declared.http_fault.HttpFault.TheVariants.{Read, Short, Length, BodyTooLong, Memory}
use Rattle.feed_http.specs.declared.fetching.validation.Framing.{Framing}
use Rattle.feed_http.specs.declared.fetching.body_machine.BodyMachine.{BodyMachine}
use Rattle.feed_http.specs.declared.fetching.chunk_machine.Bounds.{Bounds}
use Rattle.feed_http.specs.declared.fetching.step.Step.{Step}
use Rattle.feed_http.specs.declared.fetching.step.Step.TheVariants as steps
use Rattle.feed_http.specs.ArrivingHeads.{IsHeadAt}
use Rattle.feed_http.specs.Got.{IsBody, IsResultOf, IsGot, IsPartBody}
use Rattle.feed_http.specs.ArrivingBodies.{HasPassedBody, IsWholeBody, IsBodyStep, BodyEndsAs}
use Rattle.feed_http.specs.declared.fetching.response_machine.StreamEnd.TheVariants as streams
use Rattle.feed_http.specs.declared.fetching.response_machine.Place.TheVariants as places
use Rattle.feed_http.specs.ArrivingResponses.{IsInBody, IsBehindHead, IsResponseStep, IsWholeInner, got_of, step_of_part, ResponseEndsAs}
use Rattle.feed_http.specs.declared.fetching.got.Method.{Method}
use Rattle.feed_http.specs.declared.fetching.got.Got.{Got}
use Rattle.feed_http.specs.declared.fetching.validation.Announcement.{Announcement}
use Rattle.feed_http.specs.declared.fetching.validation.Announcement.TheVariants.{Part, Whole}
use Rattle.feed_http.specs.Announcements.{announcement_of}

-- heads with a fault
no_response : (fault : HttpFault) (text : List ℕ) → HasInterimAlone head_limit field_limit text fault → IsNoResponse head_limit field_limit fault text
no_response Read text is = tt
no_response _ text is = is

pub heads_failed : (method : Method) (fault : HttpFault) (text : List ℕ) → HasInterimAlone head_limit field_limit text fault → IsResultOf method text (Err fault)
heads_failed method fault text is = inr (no_response fault text is)

-- heads that the text begins with, whatever follows
pub begins_more : (text more inner : List ℕ) (interim : List ResponseHead) (head : ResponseHead) → BeginsWithHeads head_limit field_limit text interim head inner
    → BeginsWithHeads head_limit field_limit (text ++ more) interim head (inner ++ more)
begins_more text more inner interim head begins = record {
  skipped = begins.skipped;
  valid = begins.valid;
  last = begins.last;
  text_is = ap (λ t. t ++ more) begins.text_is ∙ append_assoc (print_heads interim ++ print_response head) inner more;
  short = begins.short;
  few = begins.few;
}

-- a head that is refused
pub head_refused : (method : Method) (fault : HttpFault) (text inner : List ℕ) (interim : List ResponseHead) (head : ResponseHead) → BeginsWithHeads head_limit field_limit text interim head inner
    → announcement_of method head ≡ Err fault → IsResultOf method text (Err fault)
head_refused method fault text inner interim head begins is =
    inl (record { interim = interim; head = head; rest = inner; begins = begins; is = rw is refl })

-- a head that announces a result, and what follows it
pub announced : (method : Method) (announcement : Announcement) (text inner : List ℕ) (interim : List ResponseHead) (head : ResponseHead) (result : Result Got HttpFault)
    → BeginsWithHeads head_limit field_limit text interim head inner → announcement_of method head ≡ Ok announcement → IsGot announcement inner result → IsResultOf method text result
announced method announcement text inner interim head result begins is got =
    inl (record { interim = interim; head = head; rest = inner; begins = begins; is = rw is got })

-- the fault of a part
abbrev pub fault_of_part : HttpFault → HttpFault
fault_of_part BodyTooLong = Length
fault_of_part fault = fault

pub part_failed : (framing : Framing) (count : ℕ) (text : List ℕ) (fault : HttpFault) → IsBody framing count count text (Err fault) → IsPartBody framing count text (Err (fault_of_part fault))
part_failed framing count text BodyTooLong is = inr is
part_failed framing count text Length is = inl is
part_failed framing count text _ is = is

-- the head that was found announces this
pub head_announced : (method : Method) (a : Announcement) (machine : BodyMachine) (text bytes body : List ℕ) (h : ResponseHead) (count : ℕ) → IsHeadAt text bytes h count
    → announcement_of method h ≡ Ok a → body ≡ [] → IsInBody a machine [] [] → IsBehindHead method a machine (text ++ take count bytes) body
head_announced method a machine text bytes body h count at is none inside = record {
  interim = at.interim;
  head = h;
  inner = [];
  begins = at.begins;
  is = is;
  inside = subst (λ (b : List ℕ). IsInBody a machine [] b) (sym none) inside;
}

-- it is refused, whatever follows
pub head_failed : (method : Method) (fault : HttpFault) (text bytes more : List ℕ) (h : ResponseHead) (count : ℕ) → IsHeadAt text bytes h count → announcement_of method h ≡ Err fault
    → IsResultOf method (text ++ (bytes ++ more)) (Err fault)
head_failed method fault text bytes more h count at is =
    let whole : text ++ take count bytes ++ (drop count bytes ++ more) ≡ text ++ (bytes ++ more) =
    append_assoc text (take count bytes) (drop count bytes ++ more)
    ∙ ap (λ t. text ++ t) (sym (append_assoc (take count bytes) (drop count bytes) more) ∙ ap (λ t. t ++ more) (take-append-drop count bytes)) in
    subst (λ (t : List ℕ). IsResultOf method t (Err fault)) whole
    (head_refused method fault (text ++ take count bytes ++ (drop count bytes ++ more)) ([] ++ (drop count bytes ++ more)) at.interim h
    (begins_more (text ++ take count bytes) (drop count bytes ++ more) [] at.interim h at.begins) is)

-- a step with another fault
abbrev pub with_fault : (HttpFault → HttpFault) → Step → Step
with_fault f (steps.Fault fault) = steps.Fault (f fault)
with_fault f step = step

-- how an announced body is read: its framing and bounds, and what becomes of its faults
pub record IsReadBy (a : Announcement) (framing : Framing) (least most : ℕ) (f : HttpFault → HttpFault) : Type 0 where
  pub ok : (text body : List ℕ) → IsBody framing least most text (Ok body) → IsGot a text (Ok (got_of a body))
  pub err : (text : List ℕ) (fault : HttpFault) → IsBody framing least most text (Err fault) → IsGot a text (Err (f fault))
  pub whole : (text : List ℕ) → IsWholeBody framing text → IsWholeInner (Ok a) text
  pub short : f Short ≡ Short
  pub memory : f Memory ≡ Memory
  pub into : (machine : BodyMachine) (text body : List ℕ)
      → (machine.framing ≡ framing) × (machine.chunks.bounds.least ≡ least) × (machine.chunks.bounds.most ≡ most) × HasPassedBody framing machine text body
      → IsInBody a machine text body
  pub out : (machine : BodyMachine) (text body : List ℕ) → IsInBody a machine text body
      → (machine.framing ≡ framing) × (machine.chunks.bounds.least ≡ least) × (machine.chunks.bounds.most ≡ most) × HasPassedBody framing machine text body

module _ (method : Method) (a : Announcement) (framing : Framing) (least most : ℕ) (f : HttpFault → HttpFault) (by : IsReadBy a framing least most f) (old new : BodyMachine)
    (text body bytes : List ℕ) (at : IsBehindHead method a old text body) (same : new.framing ≡ old.framing) (bounds : new.chunks.bounds ≡ old.chunks.bounds) where
  was : (old.framing ≡ framing) × (old.chunks.bounds.least ≡ least) × (old.chunks.bounds.most ≡ most) × HasPassedBody framing old at.inner body
  was = by.out old at.inner body at.inside

  framed : new.framing ≡ framing
  framed = same ∙ was.0

  from : new.chunks.bounds.least ≡ least
  from = ap (λ (b : Bounds). b.least) bounds ∙ was.1

  to : new.chunks.bounds.most ≡ most
  to = ap (λ (b : Bounds). b.most) bounds ∙ was.2

  -- what the machine says of the body, by the announcement
  body_is : (t : List ℕ) (result : Result (List ℕ) HttpFault) → IsBody new.framing new.chunks.bounds.least new.chunks.bounds.most t result → IsBody framing least most t result
  body_is t result is =
      subst (λ (n : ℕ). IsBody framing least n t result) to
      (subst (λ (n : ℕ). IsBody framing n new.chunks.bounds.most t result) from
      (subst (λ (g : Framing). IsBody g new.chunks.bounds.least new.chunks.bounds.most t result) framed is))

  -- more of the body was passed
  behind_more : (t b : List ℕ) → HasPassedBody new.framing new (at.inner ++ t) b → IsBehindHead method a new (text ++ t) b
  behind_more t b passed = record {
    interim = at.interim;
    head = at.head;
    inner = at.inner ++ t;
    begins = begins_more text t at.inner at.interim at.head at.begins;
    is = at.is;
    inside = by.into new (at.inner ++ t) b (framed, from, to, subst (λ (g : Framing). HasPassedBody g new (at.inner ++ t) b) framed passed);
  }

  behind_same : HasPassedBody new.framing new at.inner body → IsBehindHead method a new text body
  behind_same passed = record {
    interim = at.interim;
    head = at.head;
    inner = at.inner;
    begins = at.begins;
    is = at.is;
    inside = by.into new at.inner body (framed, from, to, subst (λ (g : Framing). HasPassedBody g new at.inner body) framed passed);
  }

  replied : (t : List ℕ) (result : Result Got HttpFault) → IsGot a (at.inner ++ t) result → IsResultOf method (text ++ t) result
  replied t result got = announced method a (text ++ t) (at.inner ++ t) at.interim at.head result (begins_more text t at.inner at.interim at.head at.begins) at.is got

  failed : (t : List ℕ) (fault : HttpFault) → IsBody new.framing new.chunks.bounds.least new.chunks.bounds.most (at.inner ++ t) (Err fault) → IsResultOf method (text ++ t) (Err (f fault))
  failed t fault is = replied t (Err (f fault)) (by.err (at.inner ++ t) fault (body_is (at.inner ++ t) (Err fault) is))

  given : (t b : List ℕ) → IsBody new.framing new.chunks.bounds.least new.chunks.bounds.most (at.inner ++ t) (Ok b) → IsResultOf method (text ++ t) (Ok (got_of a b))
  given t b is = replied t (Ok (got_of a b)) (by.ok (at.inner ++ t) b (body_is (at.inner ++ t) (Ok b) is))

  ended : ((result : Result (List ℕ) HttpFault) → BodyEndsAs new.framing new.chunks.bounds.least body result
      → IsBody new.framing new.chunks.bounds.least new.chunks.bounds.most (at.inner ++ bytes) result)
      → (result : Result Got HttpFault) → ResponseEndsAs streams.Closed (places.Body a new) body result → IsResultOf method (text ++ bytes) result
  ended says result (inl (ends, is)) =
      subst (λ (r : Result Got HttpFault). IsResultOf method (text ++ bytes) r) (ap (λ (e : HttpFault). Err e) by.short ∙ sym is) (failed bytes Short (says (Err Short) ends))
  ended says result (inr (ends, is)) = subst (λ (r : Result Got HttpFault). IsResultOf method (text ++ bytes) r) (sym is) (given bytes body (says (Ok body) ends))

  body_step : (step : Step) → IsBodyStep new at.inner body bytes step → IsResponseStep (record { method = method; place = places.Body a new }) text body bytes (with_fault f step)
  body_step (steps.Skip count) is = behind_more (take count bytes) body is
  body_step (steps.Body count) (passed, full) = (
    behind_more (take count bytes) (body ++ take count bytes) passed,
    λ more. subst (λ (e : HttpFault). IsResultOf method (text ++ (bytes ++ more)) (Err e)) by.memory (failed (bytes ++ more) Memory (full more)),
  )
  body_step steps.Wait (passed, says) = (behind_same passed, ended says)
  body_step steps.Done (passed, end, says) = (
    behind_same passed,
    record {
      interim = at.interim;
      head = at.head;
      inner = at.inner;
      begins = at.begins;
      whole = subst (λ (r : Result Announcement HttpFault). IsWholeInner r at.inner) (sym at.is) (by.whole at.inner (subst (λ (g : Framing). IsWholeBody g at.inner) framed end));
    },
    λ result is more. subst (λ (g : Got). IsResultOf method (text ++ more) (Ok g)) (sym is) (given more body (says more)),
    λ heads. heads,
  )
  body_step (steps.Fault fault) is = λ more. failed (bytes ++ more) fault (is more)

  pub reply_step : (step : Step) → ((inner b : List ℕ) → HasPassedBody old.framing old inner b → IsBodyStep new inner b bytes step)
      → IsResponseStep (record { method = method; place = places.Body a new }) text body bytes (with_fault f step)
  reply_step step says = body_step step (says at.inner body (subst (λ (g : Framing). HasPassedBody g old at.inner body) (sym was.0) was.3))

-- a whole file
pub whole_read : (framing : Framing) → IsReadBy (Whole framing) framing 0 file_limit (λ e. e)
whole_read framing = record {
  ok = λ text body is. (body, refl, is);
  err = λ text fault is. is;
  whole = λ text is. is;
  short = refl;
  memory = refl;
  into = λ machine text body is. is;
  out = λ machine text body is. is;
}

-- a part of it
pub part_read : (first : ℕ) (total : Option ℕ) (count : ℕ) (framing : Framing) → IsReadBy (Part first total count framing) framing count count fault_of_part
part_read first total count framing = record {
  ok = λ text body is. (body, refl, is);
  err = λ text fault is. part_failed framing count text fault is;
  whole = λ text is. is;
  short = refl;
  memory = refl;
  into = λ machine text body is. is;
  out = λ machine text body is. is;
}

pub same_step : (step : Step) → with_fault (λ e. e) step ≡ step
same_step (steps.Fault fault) = refl
same_step _ = refl

pub part_step : (step : Step) → with_fault fault_of_part step ≡ step_of_part step
part_step (steps.Fault BodyTooLong) = refl
part_step (steps.Fault _) = refl
part_step _ = refl
