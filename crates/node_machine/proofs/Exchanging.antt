-- An exchange with the knowledge base, event by event.
use Rattle.std.proofs.Common.{◌≡◌, ◌<◌, ◌≤◌, ◌+◌, ℕ, Bool, true, false, List, [], ◌∷◌, ◌++◌, length, take, drop}
use Rattle.std.proofs.Common.{Option, Some, None, Result, Ok, Err, inl, inr, refl, sym, ap, subst, arith, ◌∙◌, append_assoc}
use Rattle.std.specs.Prelude.{◌-◌, IsSomeAnd, IfSome}
use Rattle.std.specs.List.{copy_within}
use Rattle.std.proofs.lemmas.List.{append-nil, length-append, length-drop, take_all, take_at, take-append-drop}
use Rattle.feed_http_heads.specs.declared.http_fault.HttpFault.{HttpFault}
use Rattle.feed_http_heads.specs.declared.http_fault.HttpFault.TheVariants.{Read, Write, Short, BodyTooLong, Memory, Shelf}
use Rattle.feed_http.specs.declared.fetching.got.Method.{Method}
use Rattle.feed_http.specs.declared.fetching.got.Got.{Got}
use Rattle.feed_http.specs.declared.fetching.validation.Framing.{Framing}
use Rattle.feed_http.specs.declared.fetching.validation.Framing.TheVariants.{Sized}
use Rattle.feed_http.specs.declared.fetching.validation.Announcement.TheVariants.{Whole}
use Rattle.feed_http.specs.declared.fetching.response_machine.StreamEnd.{StreamEnd}
use Rattle.feed_http.specs.declared.fetching.response_machine.StreamEnd.TheVariants as ends
use Rattle.feed_http.specs.declared.fetching.response_machine.Place.{Place}
use Rattle.feed_http.specs.declared.fetching.response_machine.Place.TheVariants as places
use Rattle.feed_http.specs.declared.fetching.response_machine.ResponseMachine.{ResponseMachine}
use Rattle.feed_http.specs.ArrivingBodies.{BodyEndsAs}
use Rattle.feed_http.specs.ArrivingChunks.{IsTakingFault}
use Rattle.feed_http.specs.ArrivingResponses.{HasPassedResponse, IsAtPlace, IsResponseTaken, IsResult, IsBetweenHeads, ResponseEndsAs, file_length, is_unsized}
use Rattle.feed_http.specs.Got.{IsResultOf}
use Rattle.feed_http.specs.ResponseLaws.{HasPart}
use Rattle.feed_http.proofs.ResponseLaw.{given_part}
use Rattle.feed_fetch.specs.declared.machine.FetchRequest.{FetchRequest}
use Rattle.feed_fetch.specs.declared.stop.RequestFault.TheVariants.{Http}
use Rattle.node_machine.specs.declared.exchange.Arrival.{Arrival}
use Rattle.node_machine.specs.Exchanges.{ExchangeEvent, received_of, request_of, method_of, Reads, HasFault, HasResponse, HasEnded, IsPastLimit, HasArrived, IsTaken}
use Rattle.node_machine.specs.Exchanges.{HasArrivedPart, part_with, unsized_limit}
use Rattle.std.specs.Option.{option_map_or}

-- what is kept behind the bytes that were discarded
pub kept_behind : (kept copied : List ℕ) (count left : ℕ) → count ≤ length kept → left ≡ length kept - count → copied ≡ copy_within kept count (length kept) 0
    → take left copied ≡ drop count kept
kept_behind kept copied count left within is e =
    let part : List ℕ = take (length kept - count) (drop count kept) in
    let whole : part ≡ drop count kept = take_all (length kept - count) (drop count kept) (let l = length-drop count kept in omega (arith, l)) in
    let long : length part ≡ left = ap length whole ∙ (let l = length-drop count kept in omega (arith, l, is)) in
    ap (take left) e ∙ take_at part (drop (0 + (length kept - count)) kept) left long ∙ whole

-- what the definition says of a response to the request that was sent
pub reads : (events : List ExchangeEvent) (more : List ℕ) (request : FetchRequest) (method : Method) (text : List ℕ) (result : Result Got HttpFault)
    → request_of events ≡ Some request → method ≡ method_of request → text ≡ received_of events ++ more → IsResultOf method text result → Reads events more result
reads events more request method text result requested same is reply =
    subst (λ (asked : Option FetchRequest). IsSomeAnd asked (λ r. IsResultOf (method_of r) (received_of events ++ more) result)) (sym requested)
    (subst (λ (t : List ℕ). IsResultOf (method_of request) t result) is (subst (λ (m : Method). IsResultOf m text result) same reply))

taken_passed : (new : ResponseMachine) (passed body rest : List ℕ) (is_over : Bool) → IsResponseTaken new passed body rest is_over → HasPassedResponse new passed body
taken_passed new passed body rest true taken = taken.0
taken_passed new passed body rest false taken = taken.0

module _ (events : List ExchangeEvent) (given : List ℕ) (arrival : Arrival) (count : ℕ) (is_over : Bool) (t : IsTaken arrival count is_over events given) where
  abbrev pub front : List ℕ
  front = t.passed ++ take count arrival.kept.items

  abbrev pub rest : List ℕ
  rest = drop count arrival.kept.items

  abbrev pub body : List ℕ
  body = given ++ arrival.body.items

  split : received_of events ≡ front ++ rest
  split = t.received ∙ ap (λ x. t.passed ++ x) (sym (take-append-drop count arrival.kept.items)) ∙ sym (append_assoc t.passed (take count arrival.kept.items) rest)

  passed : HasPassedResponse arrival.machine front body
  passed = taken_passed arrival.machine front body rest is_over t.taken

  -- the response is still arriving
  pub follows : (new : Arrival) → new.machine ≡ arrival.machine → new.kept.items ≡ rest → new.body ≡ arrival.body → new.given ≡ arrival.given → HasArrived new events given
  follows new machine kept same place = record {
    request = t.request;
    requested = t.requested;
    method = ap (λ (m : ResponseMachine). m.method) machine ∙ t.method;
    passed = front;
    received = split ∙ ap (λ x. front ++ x) (sym kept);
    at = subst (λ (m : ResponseMachine). HasPassedResponse m front (given ++ new.body.items)) (sym machine)
        (subst (λ (b : List ℕ). HasPassedResponse arrival.machine front (given ++ b)) (sym (ap (λ b. b.items) same)) passed);
    place = place ∙ t.place;
    parts = λ none. t.parts (ap (λ (m : ResponseMachine). file_length m.place) (sym machine) ∙ none);
  }

  over : is_over ≡ true → IsResponseTaken arrival.machine front body rest true
  over is = subst (IsResponseTaken arrival.machine front body rest) is t.taken

  waits : is_over ≡ false → IsResponseTaken arrival.machine front body rest false
  waits is = subst (IsResponseTaken arrival.machine front body rest) is t.taken

  bodies : file_length arrival.machine.place ≡ None → body ≡ arrival.body.items
  bodies none = ap (λ g. g ++ arrival.body.items) (t.parts none)

  -- it is complete
  pub completes : (reply : Got) → is_over ≡ true → file_length arrival.machine.place ≡ None → IsResult arrival.machine.place arrival.body.items reply → HasResponse events (Ok reply)
  completes reply is none result = inl (λ more. reads events more t.request arrival.machine.method (front ++ (rest ++ more)) (Ok reply) t.requested t.method
      (sym (append_assoc front rest more) ∙ ap (λ x. x ++ more) (sym split))
      ((over is).2 reply (subst (λ (b : List ℕ). IsResult arrival.machine.place b reply) (sym (bodies none)) result) (rest ++ more)))

  pub has_heads : {A : Type 0} → is_over ≡ true → IsBetweenHeads arrival.machine.place → A
  has_heads is between = absurd ((over is).3 between)

  -- it is longer than the node takes
  pub passes_limit : is_unsized arrival.machine.place ≡ true → unsized_limit < length arrival.body.items → IsPastLimit events
  passes_limit unsized long = record {
    request = t.request;
    requested = t.requested;
    machine = arrival.machine;
    method = t.method;
    passed = front;
    rest = rest;
    body = body;
    received = split;
    at = passed;
    unsized = unsized;
    past = (let l = length-append given arrival.body.items in omega (arith, l, long));
  }

  -- what the end of the stream makes of it
  moved : (place : Place) (given own : List ℕ) (result : Result Got HttpFault) → given ≡ [] → ResponseEndsAs ends.Closed place own result
      → ResponseEndsAs ends.Closed place (given ++ own) result
  moved place given own result none is = subst (λ (b : List ℕ). ResponseEndsAs ends.Closed place b result) (ap (λ g. g ++ own) (sym none)) is

  sized : (framing : Framing) (size least : ℕ) (one other : List ℕ) (result : Result (List ℕ) HttpFault) → framing ≡ Sized size → BodyEndsAs framing least one result
      → BodyEndsAs framing least other result
  sized framing size least one other result e is =
      subst (λ (f : Framing). BodyEndsAs f least other result) (sym e) (subst (λ (f : Framing). BodyEndsAs f least one result) e is)

  never_whole : {A : Type 0} (framing : Framing) (size least : ℕ) (one : List ℕ) → framing ≡ Sized size → BodyEndsAs framing least one (Ok one) → A
  never_whole framing size least one e is = let short : Ok one ≡ Err Short = subst (λ (f : Framing). BodyEndsAs f least one (Ok one)) e is in absurd (cc)

  ends_all : (place : Place) (given own text all : List ℕ) (result : Result Got HttpFault) → IsAtPlace arrival.machine.method place text all → (file_length place ≡ None → given ≡ [])
      → ResponseEndsAs ends.Closed place own result → ResponseEndsAs ends.Closed place (given ++ own) result
  ends_all (places.Heads heads) given own text all result at none is = is
  ends_all (places.Body (Whole (Sized size)) machine) given own text all result at none (inl is) =
      inl (sized machine.framing size machine.chunks.bounds.least own (given ++ own) (Err Short) at.inside.0 is.0, is.1)
  ends_all (places.Body (Whole (Sized size)) machine) given own text all result at none (inr is) =
      never_whole machine.framing size machine.chunks.bounds.least own at.inside.0 is.0
  ends_all (places.Body announced machine) given own text all result at none is = moved (places.Body announced machine) given own result (none refl) is

  closed : (result : Result Got HttpFault) → is_over ≡ false → ResponseEndsAs ends.Closed arrival.machine.place arrival.body.items result → Reads events [] result
  closed result is so =
      reads events [] t.request arrival.machine.method (front ++ rest) result t.requested t.method (sym split ∙ sym (append-nil (received_of events)))
      ((waits is).1 result (ends_all arrival.machine.place given arrival.body.items front body result passed t.parts so))

  only_short : (place : Place) (own : List ℕ) (fault : HttpFault) → ResponseEndsAs ends.Closed place own (Err fault) → fault ≡ Short
  only_short (places.Heads heads) own fault is = cc (is)
  only_short (places.Body announced machine) own fault (inl is) = let e = is.1 in cc
  only_short (places.Body announced machine) own fault (inr is) = absurd (let e = is.1 in cc)

  pub ends_well : (end : StreamEnd) (reply : Got) → is_over ≡ false → HasEnded end events → ResponseEndsAs end arrival.machine.place arrival.body.items (Ok reply) → HasResponse events (Ok reply)
  ends_well ends.Closed reply is ended so = inr (ended, closed (Ok reply) is so)
  ends_well ends.Failed reply is ended so = absurd (cc (so))
  ends_well ends.TimedOut reply is ended so = absurd (cc (so))

  pub ends_badly : (end : StreamEnd) (fault : HttpFault) → is_over ≡ false → HasEnded end events → ResponseEndsAs end arrival.machine.place arrival.body.items (Err fault)
      → HasResponse events (Err (Http fault))
  ends_badly ends.Closed fault is ended so =
      let short = only_short arrival.machine.place arrival.body.items fault so in
      subst (HasFault events) (sym short) (ended, subst (λ (e : HttpFault). Reads events [] (Err e)) short (closed (Err fault) is so))
  ends_badly ends.Failed fault is ended so = let read : fault ≡ Read = cc (so) in subst (HasFault events) (sym read) (inl ended)
  ends_badly ends.TimedOut fault is ended so = let read : fault ≡ Read = cc (so) in subst (HasFault events) (sym read) (inr ended)

-- a fault that the bytes received show, or an allocation failure
shown : (events : List ExchangeEvent) (fault : HttpFault) → IsTakingFault fault → ((more : List ℕ) → Reads events more (Err fault)) → HasFault events fault
shown events Read is says = absurd is
shown events Write is says = absurd is
shown events Short is says = absurd is
shown events Shelf is says = absurd is
shown events Memory is says = tt
shown events BodyTooLong is says = inl says
shown events _ is says = says

module _ (events : List ExchangeEvent) (given : List ℕ) (arrival : Arrival) (h : HasArrived arrival events given) (event : ExchangeEvent) (bytes kept : List ℕ)
    (same : request_of (event ∷ events) ≡ request_of events) (received : received_of (event ∷ events) ≡ received_of events ++ bytes) (all : kept ≡ arrival.kept.items ++ bytes) where
  whole : received_of (event ∷ events) ≡ h.passed ++ kept
  whole = received ∙ ap (λ t. t ++ bytes) h.received ∙ append_assoc h.passed arrival.kept.items bytes ∙ ap (λ t. h.passed ++ t) (sym all)

  still : (old new : Option ℕ) → IfSome old (λ size. new ≡ Some size) → (old ≡ None → given ≡ []) → new ≡ None → given ≡ []
  still None new kept none is = none refl
  still (Some size) new kept none is = absurd (cc)

  -- more bytes were taken
  pub takes : (new : Arrival) (count : ℕ) (is_over : Bool) → new.machine.method ≡ arrival.machine.method → new.given ≡ arrival.given → new.kept.items ≡ kept
      → IfSome (file_length arrival.machine.place) (λ size. file_length new.machine.place ≡ Some size)
      → IsResponseTaken new.machine (h.passed ++ take count kept) (given ++ new.body.items) (drop count kept) is_over
      → IsTaken new count is_over (event ∷ events) given
  takes new count is_over method place is stated taken = record {
    request = h.request;
    requested = same ∙ h.requested;
    method = method ∙ h.method;
    passed = h.passed;
    received = whole ∙ ap (λ t. h.passed ++ t) (sym is);
    taken = subst (λ (k : List ℕ). IsResponseTaken new.machine (h.passed ++ take count k) (given ++ new.body.items) (drop count k) is_over) (sym is) taken;
    place = place ∙ h.place;
    parts = still (file_length arrival.machine.place) (file_length new.machine.place) stated h.parts;
  }

  -- they have a fault
  pub fails : (fault : HttpFault) → IsTakingFault fault → ((more : List ℕ) → IsResultOf arrival.machine.method (h.passed ++ (kept ++ more)) (Err fault))
      → HasResponse (event ∷ events) (Err (Http fault))
  fails fault is says = shown (event ∷ events) fault is (λ more. reads (event ∷ events) more h.request arrival.machine.method (h.passed ++ (kept ++ more)) (Err fault)
      (same ∙ h.requested) h.method (sym (append_assoc h.passed kept more) ∙ ap (λ t. t ++ more) (sym whole)) (says more))

-- the part of a whole file that has arrived
pub arrived_part : (events : List ExchangeEvent) (given : List ℕ) (arrival : Arrival) (size : ℕ) → HasArrived arrival events given
    → file_length arrival.machine.place ≡ Some size → HasArrivedPart events size arrival.given arrival.body.items
arrived_part events given arrival size h announced =
    let part = given_part arrival.machine size h.passed given arrival.body.items arrival.kept.items announced h.at in
    subst (λ (asked : Option FetchRequest). IsSomeAnd asked (λ r. HasPart (method_of r) (received_of events) size arrival.given arrival.body.items)) (sym h.requested)
    (subst (λ (t : List ℕ). HasPart (method_of h.request) t size arrival.given arrival.body.items) (sym h.received)
    (subst (λ (m : Method). HasPart m (h.passed ++ arrival.kept.items) size arrival.given arrival.body.items) h.method
    (subst (λ (n : ℕ). HasPart arrival.machine.method (h.passed ++ arrival.kept.items) size n arrival.body.items) (sym h.place) part)))

-- and what follows once it was given
pub passes_part : (events : List ExchangeEvent) (given : List ℕ) (arrival new : Arrival) (size most : ℕ) → HasArrived arrival events given
    → file_length arrival.machine.place ≡ Some size → size ≤ most → new.machine ≡ arrival.machine → new.kept ≡ arrival.kept → new.body.items ≡ []
    → (arrival.given + length arrival.body.items ≤ most → new.given ≡ arrival.given + length arrival.body.items)
    → HasArrived new events (given ++ arrival.body.items)
passes_part events given arrival new size most h announced within machine kept none place =
    let part = given_part arrival.machine size h.passed given arrival.body.items arrival.kept.items announced h.at in
    let l = length-append given arrival.body.items in
    record {
      request = h.request;
      requested = h.requested;
      method = ap (λ (m : ResponseMachine). m.method) machine ∙ h.method;
      passed = h.passed;
      received = h.received ∙ ap (λ k. h.passed ++ k.items) (sym kept);
      at = subst (λ (m : ResponseMachine). HasPassedResponse m h.passed (given ++ arrival.body.items ++ new.body.items)) (sym machine)
          (subst (λ (b : List ℕ). HasPassedResponse arrival.machine h.passed b) (sym (ap (λ b. given ++ arrival.body.items ++ b) none ∙ append-nil (given ++ arrival.body.items))) h.at);
      place = place (let p = h.place in omega (arith, p, part.fits, within)) ∙ ap (λ (n : ℕ). n + length arrival.body.items) h.place ∙ sym l;
      parts = λ e. absurd (let f : file_length arrival.machine.place ≡ None = ap (λ (m : ResponseMachine). file_length m.place) (sym machine) ∙ e in cc);
    }

-- the part of an exchange, by its arrival
pub part_is : (arrival : Arrival) (length : Option ℕ) (first size : ℕ) (bytes : List ℕ) → ◌≡◌ {A = Option (ℕ × ℕ × List ℕ)} (part_with arrival length) (Some (first, size, bytes))
    → (length ≡ Some size) × (arrival.given ≡ first) × (arrival.body.items ≡ bytes)
part_is arrival None first size bytes is = absurd (cc (is))
part_is arrival (Some stated) first size bytes is = (ap Some (pick (λ p. p.1) is), pick (λ p. p.0) is, pick (λ p. p.2) is)
  where
    pick : {B : Type 0} (f : ℕ × ℕ × List ℕ → B) → ◌≡◌ {A = Option (ℕ × ℕ × List ℕ)} (Some (arrival.given, stated, arrival.body.items)) (Some (first, size, bytes))
        → f (arrival.given, stated, arrival.body.items) ≡ f (first, size, bytes)
    pick f e = ap (λ (o : Option (ℕ × ℕ × List ℕ)). option_map_or f o (f (first, size, bytes))) e
