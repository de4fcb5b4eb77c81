-- The head that was found in the bytes held, for more of them or fewer.
use Rattle.std.proofs.Common.{◌≡◌, ◌≢◌, ◌≤◌, ◌+◌, ◌-◌, ℕ, Bool, true, false, List, [], ◌++◌, length, take, drop, nat_le, cond}
use Rattle.std.proofs.Common.{refl, sym, ap, ◌∙◌, subst, arith, append_assoc, take-append-drop, length-append}
use Rattle.std.specs.Prelude.{vec_len, Option, Some, None, MatchOption}
use Rattle.std.proofs.Props.{props}
use Rattle.std.proofs.lemmas.Bool.Decides.{nat_tests}
use Rattle.std.proofs.lemmas.List.{take_all, take-append-le, take-take}
use Rattle.std.proofs.Math.Seq.{take-add}
use mathlib.Core.Logic.{∥∥₁_elim}
use Rattle.httparse.specs.Grammar.{RequestHead, ReadsRequest, print_request}
use Rattle.httparse.specs.Spans.{IsRequestWithin, IsRequestAt}
use Rattle.httparse.specs.declared.spans.HeaderSpan.{HeaderSpan}
use Rattle.httparse.specs.declared.spans.RequestSpans.{RequestSpans}
use Rattle.httparse.proofs.GrammarLemmas.{request_unique}
use Rattle.feed_http_heads.specs.HeadEnds.{IsHeadInFront, IsHeadFound}
use Rattle.feed_http_heads.specs.Limits.{head_limit, field_limit}
use Rattle.feed_http_heads.specs.RequestHeads.{BeginsWithHead, NeverBeginsWithHead, IsUnfinished}
use Rattle.feed_http_heads.specs.declared.head_ends.HeadFound.{HeadFound}
use Rattle.feed_http_heads.specs.declared.head_ends.HeadFound.TheVariants.{Whole, Unfinished, Never}
use Rattle.feed_http_heads.proofs.RequestReading as reading
use Rattle.feed_http_heads.specs.Requests.{HasHead}
use Rattle.feed_http_heads.specs.declared.request.Request.{Request}
use Rattle.node_request.specs.FoundRequests.{HasNoHead, IsFoundIn}
use Rattle.node_connection.specs.HeldBytes.{covers, covers_found}
use Rattle.node_connection.specs.declared.held_bytes.HeldBytes.{HeldBytes}
use Rattle.node_request.specs.Routes.{route_of}
use Rattle.node_request.specs.declared.route.Route.{Route}
use Rattle.node_request.specs.declared.received.ParsedRequest.{ParsedRequest}
use Rattle.node_request.proofs.OneHead.{head_prop}
use Rattle.node_connection.proofs.Exchanges.{begins_on, head_taken}

-- the spans of a head at the front are known in one way at most
front_prop : (text : List ℕ) (headers : List HeaderSpan) (spans : RequestSpans) → IsProp (IsHeadInFront head_limit field_limit text headers spans)
front_prop text headers spans p q =
    let Fact : RequestHead → Type 0 = λ head. IsRequestWithin (take head_limit text) headers spans × IsRequestAt (take head_limit text) headers spans head in
    ap (λ (s : (head : RequestHead) × (BeginsWithHead head_limit field_limit text head × Fact head)). record { within = s.1.1.0; head = s.0; at = s.1.1.1; begins = s.1.0 })
    (head_prop text Fact (λ head. Prim.hlevel props) (p.head, (p.begins, (p.within, p.at))) (q.head, (q.begins, (q.within, q.at))))

-- so what is known to be found is given
pub front_had : (text : List ℕ) (headers : List HeaderSpan) (found : HeadFound) (spans : RequestSpans) → ∥ IsHeadFound head_limit field_limit text headers found ∥₁ → found ≡ Whole spans
    → IsHeadInFront head_limit field_limit text headers spans
front_had text headers found spans known is =
    ∥∥₁_elim (subst (λ (f : HeadFound). ∥ IsHeadFound head_limit field_limit text headers f ∥₁) is known) (front_prop text headers spans) (λ fact. fact)

pub never_had : (text : List ℕ) (headers : List HeaderSpan) (found : HeadFound) → ∥ IsHeadFound head_limit field_limit text headers found ∥₁ → found ≡ Never
    → NeverBeginsWithHead head_limit field_limit text
never_had text headers found known is more head begins =
    ∥∥₁_elim (subst (λ (f : HeadFound). ∥ IsHeadFound head_limit field_limit text headers f ∥₁) is known) (λ p q. absurd p) (λ never. never more head begins)

-- bytes that begin with a head do so up to each place behind it
pub begins_up_to : (bytes : List ℕ) (seen size : ℕ) (head : RequestHead) → BeginsWithHead head_limit field_limit (take seen bytes) head → length (print_request head) ≤ size
    → BeginsWithHead head_limit field_limit (take size bytes) head
begins_up_to bytes seen size head begins long =
    let len : ℕ = length (print_request head) in
    let all = subst (λ t. BeginsWithHead head_limit field_limit t head) (take-append-drop seen bytes) (begins_on (take seen bytes) (drop seen bytes) head begins) in
    let sum : size ≡ len + (size - len) = omega (arith, long) in
    record {
      rest = take (size - len) (drop len bytes);
      reads = (
        begins.reads.0,
        ap (λ n. take n bytes) sum ∙ take-add len (size - len) bytes ∙ ap (λ t. t ++ take (size - len) (drop len bytes)) (head_taken bytes head len all refl),
      );
      short = begins.short;
      few = begins.few;
    }

-- bytes that never begin with one do not with more
pub never_up_to : (bytes : List ℕ) (seen size : ℕ) → NeverBeginsWithHead head_limit field_limit (take seen bytes) → seen ≤ size
    → NeverBeginsWithHead head_limit field_limit (take size bytes)
never_up_to bytes seen size never le more head begins =
    let front : take size bytes ≡ take seen bytes ++ drop seen (take size bytes) =
    sym (take-append-drop seen (take size bytes)) ∙ ap (λ t. t ++ drop seen (take size bytes)) (take-take seen size bytes le) in
    never (drop seen (take size bytes) ++ more) head
    (subst (λ t. BeginsWithHead head_limit field_limit t head) (ap (λ t. t ++ more) front ∙ append_assoc (take seen bytes) (drop seen (take size bytes)) more) begins)

-- no bytes begin with a head
pub nothing_yet : IsUnfinished head_limit []
nothing_yet = record { short = omega arith; not_whole = reading.nothing_yet.not_whole; may_become = reading.nothing_yet.may_become }

pub none_begins : (route : Route) (head : RequestHead) → BeginsWithHead head_limit field_limit [] head → route ≡ route_of head
none_begins route head begins = absurd (nothing_yet.not_whole head begins.rest begins.reads)

-- bytes begin with one head at most
pub one_begins : (text : List ℕ) (head other : RequestHead) → BeginsWithHead head_limit field_limit text head → BeginsWithHead head_limit field_limit text other → head ≡ other
one_begins text head other begins also = (request_unique text head other begins.rest also.rest begins.reads also.reads).0

-- ---- what the bytes held know of them

abbrev Knows : List ℕ → ℕ → HeadFound → List HeaderSpan → Type 0
Knows bytes seen found headers = ∥ IsHeadFound head_limit field_limit (take seen bytes) headers found ∥₁

-- what was found is known if all bytes were parsed
pub known_all : (bytes text : List ℕ) (size room : ℕ) (headers : List HeaderSpan) (found : HeadFound) → text ≡ bytes → size ≡ length bytes → room ≡ 64
    → IsHeadFound head_limit room text headers found → Knows bytes size found headers
known_all bytes text size room headers found same long all is =
    ∣ subst (λ n. IsHeadFound head_limit n (take size bytes) headers found) all
    (subst (λ t. IsHeadFound head_limit room t headers found) (same ∙ sym (take_all size bytes (omega (arith, long)))) is) ∣₁

-- the bytes that cover what was found begin with the head, or are not one
pub covers_whole : (held : HeldBytes) (spans : RequestSpans) (size : ℕ) → held.found ≡ Whole spans → covers held size ≡ true → spans.len ≤ size
covers_whole held spans size is has =
    let le : nat_le spans.len size ≡ true = subst (λ (f : HeadFound). covers_found f held.seen size ≡ true) is has in grind (arith, nat_tests)

pub whole_covers : (held : HeldBytes) (spans : RequestSpans) (size : ℕ) → held.found ≡ Whole spans → spans.len ≤ size → covers held size ≡ true
whole_covers held spans size is le =
    let has : nat_le spans.len size ≡ true = grind (arith, nat_tests) in subst (λ (f : HeadFound). covers_found f held.seen size ≡ true) (sym is) has

pub front_in : (held : HeldBytes) (spans : RequestSpans) → held.found ≡ Whole spans → IsHeadInFront head_limit field_limit (take held.seen held.bytes.items) held.headers spans
front_in held spans is = front_had (take held.seen held.bytes.items) held.headers held.found spans held.known is

-- the request whose head was found is in those bytes
pub found_up_to : (held : HeldBytes) (spans : RequestSpans) (request : Request) (size : ℕ) → (is : held.found ≡ Whole spans) → covers held size ≡ true
    → HasHead request (front_in held spans is).head → IsFoundIn (take size held.bytes.items) request
found_up_to held spans request size is has at =
    let front = front_in held spans is in
    record {
      head = front.head;
      begins = begins_up_to held.bytes.items held.seen size front.head front.begins (omega (arith, covers_whole held spans size is has, front.at.len));
      has = at;
    }

-- all bytes cover what was found
covers_in : (found : HeadFound) (held : HeldBytes) → held.found ≡ found → found ≢ Unfinished → covers held (length held.bytes.items) ≡ true
covers_in (Whole spans) held is other =
    let front = front_in held spans is in
    let within : length (print_request front.head) ≤ length (take held.seen held.bytes.items) =
    omega (arith, ap length front.begins.reads.1, length-append (print_request front.head) front.begins.rest) in
    let parts : length (take held.seen held.bytes.items) ≤ length held.bytes.items =
    omega (arith, ap length (take-append-drop held.seen held.bytes.items), length-append (take held.seen held.bytes.items) (drop held.seen held.bytes.items)) in
    whole_covers held spans (length held.bytes.items) is (omega (arith, front.at.len, within, parts))
covers_in Unfinished held is other = absurd (other refl)
covers_in Never held is other =
    let long : vec_len held.bytes ≡ length held.bytes.items = (cc) in
    let has : nat_le held.seen (length held.bytes.items) ≡ true = grind (arith, nat_tests, held.within, long) in
    subst (λ (f : HeadFound). covers_found f held.seen (length held.bytes.items) ≡ true) (sym is) has

pub covers_all : (held : HeldBytes) → held.found ≢ Unfinished → covers held (length held.bytes.items) ≡ true
covers_all held other = covers_in held.found held refl other

-- bytes without a head that cover it never begin with one
never_in : (found : HeadFound) (held : HeldBytes) (size : ℕ) → held.found ≡ found → ((spans : RequestSpans) → found ≢ Whole spans) → covers held size ≡ true
    → NeverBeginsWithHead head_limit field_limit (take size held.bytes.items)
never_in (Whole spans) held size is other has = absurd (other spans refl)
never_in Unfinished held size is other has = let none : false ≡ true = subst (λ (f : HeadFound). covers_found f held.seen size ≡ true) is has in absurd (cc)
never_in Never held size is other has =
    let le : nat_le held.seen size ≡ true = subst (λ (f : HeadFound). covers_found f held.seen size ≡ true) is has in
    never_up_to held.bytes.items held.seen size (never_had (take held.seen held.bytes.items) held.headers held.found held.known is) (grind (arith, nat_tests))

pub never_covered : (held : HeldBytes) (size : ℕ) → ((spans : RequestSpans) → held.found ≢ Whole spans) → covers held size ≡ true
    → NeverBeginsWithHead head_limit field_limit (take size held.bytes.items)
never_covered held size other has = never_in held.found held size refl other has

-- the front is the same with more bytes
pub appended : (added : Bool) (size : ℕ) (old more new : List ℕ) → size ≤ length old → new ≡ cond added (old ++ more) old → take size new ≡ take size old
appended true size old more new le is = ap (take size) is ∙ take-append-le size old more le
appended false size old more new le is = ap (take size) is

-- the route that was parsed is that of the head
pub route_found : (bytes : List ℕ) (size room : ℕ) (headers : List HeaderSpan) (spans : RequestSpans) (parsed : ParsedRequest) → size ≡ length bytes
    → (front : IsHeadInFront head_limit room bytes headers spans) → HasHead parsed.request front.head
    → (head : RequestHead) → BeginsWithHead head_limit field_limit (take size bytes) head → parsed.route ≡ route_of head
route_found bytes size room headers spans parsed long front has head begins =
    let reads = subst (λ t. ReadsRequest t head begins.rest) (take_all size bytes (omega (arith, long))) begins.reads in
    parsed.routed front.head has ∙ ap route_of (request_unique bytes front.head head front.begins.rest begins.rest front.begins.reads reads).0

-- bytes that are not a head have any route
pub never_routed : (text : List ℕ) (headers : List HeaderSpan) (found : HeadFound) (route : Route) → ∥ IsHeadFound head_limit field_limit text headers found ∥₁ → found ≡ Never
    → (head : RequestHead) → BeginsWithHead head_limit field_limit text head → route ≡ route_of head
never_routed text headers found route known is head begins = absurd (never_had text headers found known is [] head (begins_on text [] head begins))

-- bytes that never begin with a head do not now
pub none_now : (result : Option ParsedRequest) (text : List ℕ) → MatchOption result (NeverBeginsWithHead head_limit field_limit text) (λ one. IsFoundIn text one.request)
    → MatchOption result (HasNoHead text) (λ one. IsFoundIn text one.request)
none_now None text never = λ head begins. never [] head (begins_on text [] head begins)
none_now (Some one) text is = is
