-- The state of a connection after each of its events.
use Rattle.std.proofs.Common.{◌≡◌, ◌≢◌, ◌≤◌, ◌<◌, ◌+◌, ◌-◌, ◌⊎◌, ℕ, Bool, true, false, List, [], ◌∷◌, ◌++◌, length, take, drop, nat_le, Some, None}
use Rattle.std.proofs.Common.{suc, eqb-true, refl, sym, ap, ◌∙◌, subst, arith, inl, inr, append_assoc, append-nil, take-append-drop, length-take-le, length-drop, cond}
use Rattle.std.specs.Prelude.{◌==◌, ◌&&◌, not, vec_len}
use Rattle.httparse.proofs.GrammarLemmas.{request_unique}
use Rattle.std.proofs.lemmas.Bool.{cases_Bool}
use Rattle.std.proofs.lemmas.Bool.Decides.{nat_tests}
use Rattle.std.proofs.Math.Seq.{take-add}
use Rattle.std.proofs.lemmas.List.{take_all, drop_all, drop-drop, take-append-le}
use Rattle.httparse.specs.Grammar.{RequestHead, print_request}
use Rattle.feed_http_heads.specs.Limits.{head_limit, field_limit}
use Rattle.feed_http_heads.specs.RequestHeads.{BeginsWithHead, IsUnfinished, NeverBeginsWithHead}
use Rattle.node_connection.specs.declared.connection.Connection.{Connection}
use Rattle.node_connection.specs.declared.phase.ConnectionPhase.{ConnectionPhase}
use Rattle.node_connection.specs.declared.phase.ConnectionPhase.TheVariants.{Idle, Receiving, Parsing, Sending, Answered, Lingering, Complete, Aborted}
use Rattle.node_connection.specs.declared.phase.Wants.TheVariants as wants
use Rattle.node_connection.specs.declared.head_state.AfterResponse.{AfterResponse}
use Rattle.node_connection.specs.declared.head_state.FoundRequest.{FoundRequest}
use Rattle.node_connection.specs.declared.head_state.AfterResponse.TheVariants.{Persist, Linger, Receive}
use Rattle.node_connection.specs.Requests.{Request, Persistent, Last, Invalid, text_of, IsLastOf, AreRequestsIn, IsPersistent, persists, all_persist, states_len, body_len_of, expects_continue}
use Rattle.node_connection.specs.Events.{Event, Received, Responded, Continued, Resumed, Sent, interim, continue_text}
use Rattle.node_connection.specs.Events.{received_bytes, response_bytes, sent_bytes, requests_in, min_progress, is_idle, sent_len, elapsed}
use Rattle.node_connection.specs.Responses.{Responses, IsFoundIn, IsPending, HasNoResponse, unavailable}
use Rattle.node_connection.specs.States.{IsServedUpTo, AreFirst, HasEnded, AreSent, IsFrontSent, IsInTime, IsCurrent, IsAfterResponse}
use Rattle.node_connection.specs.States.{HasStateIn, HasState, HasAborted, KnowsRequest, HasParsed, HasMadeResponse, HasWaited, HasBegunWait, IsSameButPhase}
use Rattle.node_connection.specs.States.{IsIncomplete, body_after, room_in, request_limit, rest_of, limit_in}
use Rattle.node_connection.specs.States.{HasBegunResponse, HasResponded, phase_after, pending_in, wants_in, is_idle_in, is_lingering_in, is_response_sent_in, StateIsRight}
use Rattle.node_connection.specs.Streams.{AllIsServed}
use Rattle.node_connection.proofs.Unavailable.{unavailable_says}
use Rattle.node_connection.proofs.Exchanges.{begins_on, requests_on, requests_with, all_persist_with, ends_with, ends_with_none, head_taken, whole_begins}
use Rattle.node_connection.proofs.Exchanges.{exchanges, exchanges_asked, exchanges_responses, exchanges_replied}

-- the phase is right for this history
abbrev pub HasPhase : Connection → List Event → Type 0
HasPhase connection history = HasStateIn connection.phase connection history

-- ---- bytes are received

-- a client that waits for an interim response still does
pending_on : (bytes more text : List ℕ) → IsPending bytes text → IsPending (bytes ++ more) text
pending_on bytes more text (inl none) = inl none
pending_on bytes more text (inr is) = inr (is.0, (is.1.0, begins_on bytes more is.1.0 is.1.1, is.1.2))

first_on : (history : List Event) (bytes : List ℕ) → AreFirst history → AreFirst (Received bytes ∷ history)
first_on history bytes first = (
  first.0 ++ bytes,
  requests_on (requests_in history) (received_bytes history) first.0 bytes first.1,
  (first.2.0, pending_on first.0 bytes (interim history) first.2.1),
)

-- each request before these bytes has its response
served_on : (history : List Event) (bytes rest : List ℕ) → IsServedUpTo history rest → IsServedUpTo (Received bytes ∷ history) (rest ++ bytes)
served_on history bytes rest was = record {
  in_order = requests_on (requests_in history) (received_bytes history) rest bytes was.in_order;
  persists = was.persists;
  expected = (was.expected.0, pending_on rest bytes (interim history) was.expected.1);
}

first_of : (history : List Event) (rest : List ℕ) → IsServedUpTo history rest → AreFirst history
first_of history rest served = (rest, served.in_order, served.expected)

-- the bytes are held after those before
pub received_whole : (idle : Bool) (old new : Connection) (history : List Event) (bytes : List ℕ) → IsCurrent idle old history
    → new.phase ≡ Parsing → new.received.bytes.items ≡ old.received.bytes.items ++ bytes → new.is_continued ≡ old.is_continued → new.sent_since ≡ old.sent_since → new.limits ≡ old.limits
    → 0 < new.limits.step → new.elapsed ≡ cond idle 0 old.elapsed → HasPhase new (Received bytes ∷ history)
received_whole idle old new history bytes was parsing held continued since limits some counted =
    subst (λ (p : ConnectionPhase). HasStateIn p new (Received bytes ∷ history)) (sym parsing) (record {
      served = subst (IsServedUpTo (Received bytes ∷ history)) (sym held) (served_on history bytes old.received.bytes.items was.served);
      knows = rw continued was.knows;
      sent = was.sent;
      in_time = time idle was counted;
    })
  where
    time : (i : Bool) → IsCurrent i old history → new.elapsed ≡ cond i 0 old.elapsed → IsInTime false new (Received bytes ∷ history)
    time true current zero = record {
      idleness = refl;
      counted_time = rw current.in_time.idleness zero;
      counted_bytes = since ∙ current.in_time.counted_bytes;
      left = rw zero some;
    }
    time false current same = record {
      idleness = refl;
      counted_time = rw current.in_time.idleness (same ∙ current.in_time.counted_time);
      counted_bytes = since ∙ current.in_time.counted_bytes;
      left = rw (same, limits) current.in_time.left;
    }

-- memory ran out
pub received_aborted : (idle : Bool) (old new : Connection) (history : List Event) (bytes : List ℕ) → IsCurrent idle old history
    → new.phase ≡ Aborted → HasPhase new (Received bytes ∷ history)
received_aborted idle old new history bytes was aborted =
    subst (λ (p : ConnectionPhase). HasStateIn p new (Received bytes ∷ history)) (sym aborted)
    (first_on history bytes (first_of history old.received.bytes.items was.served), ([], was.sent ∙ sym (append-nil (sent_bytes history))))

-- the bytes are dropped
pub received_late : (connection : Connection) (history : List Event) (bytes : List ℕ) → connection.phase ≡ Lingering
    → HasPhase connection history → HasPhase connection (Received bytes ∷ history)
received_late connection history bytes lingering state =
    let was = subst (λ (p : ConnectionPhase). HasStateIn p connection history) lingering state in
    subst (λ (p : ConnectionPhase). HasStateIn p connection (Received bytes ∷ history)) (sym lingering) (record {
      complete = record {
        ended = (first_on history bytes was.complete.ended.0, was.complete.ended.1);
        sent = was.complete.sent;
        freed = was.complete.freed;
      };
      in_time = record {
        idleness = refl;
        counted_time = rw was.in_time.idleness was.in_time.counted_time;
        counted_bytes = was.in_time.counted_bytes;
        left = was.in_time.left;
      };
    })

-- each request before the bytes held has its response while a connection waits for the next one
pub current_in : (phase : ConnectionPhase) (connection : Connection) (history : List Event) → wants_in phase ≡ wants.Bytes → is_lingering_in phase ≡ false
    → HasStateIn phase connection history → IsCurrent (is_idle_in phase) connection history
current_in Idle connection history waits other state = state.current
current_in Receiving connection history waits other state = state.current
current_in Parsing connection history waits other state = absurd (cc)
current_in Sending connection history waits other state = absurd (cc)
current_in Answered connection history waits other state = absurd (cc)
current_in Lingering connection history waits other state = absurd (cc)
current_in Complete connection history waits other state = absurd (cc)
current_in Aborted connection history waits other state = absurd (cc)

pub lingering_is : (phase : ConnectionPhase) → is_lingering_in phase ≡ true → phase ≡ Lingering
lingering_is Idle is = absurd (cc)
lingering_is Receiving is = absurd (cc)
lingering_is Parsing is = absurd (cc)
lingering_is Sending is = absurd (cc)
lingering_is Answered is = absurd (cc)
lingering_is Lingering is = refl
lingering_is Complete is = absurd (cc)
lingering_is Aborted is = absurd (cc)

-- ---- a request is responded to

-- the whole response was sent
done : (after : AfterResponse) (new : Connection) (history : List Event) → IsAfterResponse after new history → AreSent history → new.reply.items ≡ []
    → IsInTime false new history → HasStateIn (phase_after after) new history
done Persist new history is sent freed time = record { served = is.0; no_interim = is.1; sent = sent; freed = freed; in_time = time }
done Receive new history is sent freed time = record { served = is.0; knows = is.1; sent = sent; in_time = time }
done Linger new history is sent freed time = record { complete = record { ended = is; sent = sent; freed = freed }; in_time = time }

-- the request whose response is sent remains the same
pub knows_still : (old new : Connection) (history later : List Event) → requests_in later ≡ requests_in history → new.request_len ≡ old.request_len
    → new.received.bytes.items ≡ old.received.bytes.items → KnowsRequest old history → KnowsRequest new later
knows_still old new history later same size held (inl none) = inl (size ∙ none)
knows_still old new history later same size held (inr is) = inr (rw (same, size, held) is)

-- and if more bytes are held after it
pub knows_more : (size : ℕ) (held more bytes : List ℕ) (requests : List Request) → size ≤ length held → more ≡ held ++ bytes
    → (size ≡ 0) ⊎ IsLastOf requests (take size held) → (size ≡ 0) ⊎ IsLastOf requests (take size more)
knows_more size held more bytes requests inside same (inl none) = inl none
knows_more size held more bytes requests inside same (inr is) = inr (rw (same, take-append-le size held bytes inside) is)

-- it is the one at the front
knows_new : (reply : List ℕ) (size : ℕ) (after : AfterResponse) (request : Request) (old new : Connection) (history : List Event) → text_of request ≡ take size old.received.bytes.items
    → HasBegunResponse reply size after old new → KnowsRequest new (Responded request reply ∷ history)
knows_new reply size after request old new history text has = inr (requests_in history, request, refl, rw (has.request_len, has.received) text)

-- a response begins
begun : (reply : List ℕ) (size : ℕ) (after : AfterResponse) (request : Request) (old new : Connection) (history : List Event) → IsCurrent false old history → new.limits ≡ old.limits
    → text_of request ≡ take size old.received.bytes.items → HasBegunResponse reply size after old new → IsAfterResponse after new (Responded request reply ∷ history)
    → HasState new (Responded request reply ∷ history)
begun [] size after request old new history was limits text has is = (
  subst (λ (p : ConnectionPhase). HasStateIn p new (Responded request [] ∷ history)) (sym has.phase)
      (done after new (Responded request [] ∷ history) is (append-nil (response_bytes history) ∙ was.sent) has.text
      (record { idleness = refl; counted_time = has.elapsed; counted_bytes = has.sent_since; left = rw (has.elapsed, limits) (omega (arith, was.in_time.left)) })),
  has.sent_len,
  knows_new [] size after request old new history text has,
)
begun (byte ∷ bytes) size after request old new history was limits text has is = (
  subst (λ (p : ConnectionPhase). HasStateIn p new (Responded request (byte ∷ bytes) ∷ history)) (sym has.phase) (record {
    after = subst (λ (a : AfterResponse). IsAfterResponse a new (Responded request (byte ∷ bytes) ∷ history)) (sym has.after_is) is;
    sent = rw (has.sent, has.text) (ap (λ t. t ++ byte ∷ bytes) was.sent);
    more = rw (has.sent, has.text) (omega arith);
    sent_is = has.sent;
    reply_is = has.text;
    in_time = record { idleness = refl; counted_time = has.elapsed; counted_bytes = has.sent_since; left = rw (has.elapsed, limits) (omega (arith, was.in_time.left)) };
  }),
  has.sent_len,
  knows_new (byte ∷ bytes) size after request old new history text has,
)

-- memory ran out
cut : (old new : Connection) (history : List Event) → IsCurrent false old history → HasState old history → HasAborted old new → HasState new history
cut old new history was state is = (
  subst (λ (p : ConnectionPhase). HasStateIn p new history) (sym is.0) (first_of history old.received.bytes.items was.served, ([], was.sent ∙ sym (append-nil (sent_bytes history)))),
  is.1 ∙ state.1,
  knows_still old new history history refl is.2 is.3 state.2,
)

-- the interim response to the head at the front is one that the client expects
interim_head : (bytes text : List ℕ) (head : RequestHead) → BeginsWithHead head_limit field_limit bytes head → IsPending bytes text
    → (text ≡ []) ⊎ ((text ≡ continue_text) × (expects_continue head ≡ true))
interim_head bytes text head begins (inl none) = inl none
interim_head bytes text head begins (inr is) =
    let one = request_unique bytes head is.1.0 begins.rest is.1.1.rest begins.reads is.1.1.reads in
    inr (is.0, subst (λ (h : RequestHead). expects_continue h ≡ true) (sym one.0) is.1.2)

-- there is none to bytes that are not a request
interim_none : (bytes text : List ℕ) → NeverBeginsWithHead head_limit field_limit bytes → IsPending bytes text → text ≡ []
interim_none bytes text never (inl none) = none
interim_none bytes text never (inr is) = absurd (never [] is.1.0 (begins_on bytes [] is.1.0 is.1.1))

-- what follows a request
persists_after : (old new : Connection) (history : List Event) (reply : List ℕ) (head_len body_len : ℕ) (head : RequestHead) → IsCurrent false old history
    → BeginsWithHead head_limit field_limit old.received.bytes.items head → head_len ≡ length (print_request head)
    → persists head (length (body_after head_len body_len old.received.bytes.items)) ≡ true → HasBegunResponse reply (head_len + body_len) Persist old new
    → IsAfterResponse Persist new (Responded (Persistent head (body_after head_len body_len old.received.bytes.items)) reply ∷ history)
persists_after old new history reply head_len body_len head was begins is keeps has = (
  record {
    in_order = requests_with (requests_in history) (received_bytes history) old.received.bytes.items (Persistent head (body_after head_len body_len old.received.bytes.items)) (rest_of new)
        was.served.persists was.served.in_order (whole_begins old.received.bytes.items head head_len body_len begins is, keeps, sym (rw (has.request_len, has.received) refl));
    persists = all_persist_with (requests_in history) head (body_after head_len body_len old.received.bytes.items) was.served.persists;
    expected = ((interim_head old.received.bytes.items (interim history) head begins was.served.expected.1, was.served.expected.0), inl refl);
  },
  refl,
)

ends_after : (old : Connection) (history : List Event) (reply : List ℕ) (head_len body_len : ℕ) (head : RequestHead) → IsCurrent false old history
    → BeginsWithHead head_limit field_limit old.received.bytes.items head → head_len ≡ length (print_request head)
    → HasEnded (Responded (Last head (body_after head_len body_len old.received.bytes.items)) reply ∷ history)
ends_after old history reply head_len body_len head was begins is = (
  (
    [],
    requests_with (requests_in history) (received_bytes history) old.received.bytes.items (Last head (body_after head_len body_len old.received.bytes.items)) [] was.served.persists
        was.served.in_order (whole_begins old.received.bytes.items head head_len body_len begins is, refl),
    ((interim_head old.received.bytes.items (interim history) head begins was.served.expected.1, was.served.expected.0), inl refl),
  ),
  ends_with (requests_in history) head (body_after head_len body_len old.received.bytes.items),
)

invalid_after : (old : Connection) (history : List Event) (reply : List ℕ) → IsCurrent false old history → NeverBeginsWithHead head_limit field_limit old.received.bytes.items
    → HasEnded (Responded (Invalid old.received.bytes.items) reply ∷ history)
invalid_after old history reply was never = (
  (
    [],
    requests_with (requests_in history) (received_bytes history) old.received.bytes.items (Invalid old.received.bytes.items) [] was.served.persists was.served.in_order
        (sym (append-nil old.received.bytes.items), never, refl),
    ((interim_none old.received.bytes.items (interim history) never was.served.expected.1, was.served.expected.0), inl refl),
  ),
  ends_with_none (requests_in history) old.received.bytes.items,
)

-- the bytes of a persistent head allow its response to say so
pub allowed_head : (wanted : RequestHead → ℕ) (bytes : List ℕ) (found : FoundRequest) → IsFoundIn wanted bytes found → found.head_len + found.body_len ≤ length bytes
    → found.persists ≡ true → IsPersistent wanted (take found.head_len bytes) (body_after found.head_len found.body_len bytes)
allowed_head wanted bytes found is within keeps =
    let taken : take found.head_len bytes ≡ print_request is.head = head_taken bytes is.head found.head_len is.begins is.found.head_len_is in
    let long : length (body_after found.head_len found.body_len bytes) ≡ found.body_len = body_long found.head_len found.body_len bytes within in
    record {
      head = is.head;
      begins = subst (λ (t : List ℕ). BeginsWithHead head_limit field_limit t is.head) (sym taken) (record {
        rest = [];
        reads = (is.begins.reads.0, sym (append-nil (print_request is.head)));
        short = is.begins.short;
        few = is.begins.few;
      });
      size = long ∙ is.found.body_is;
      keeps = ap (persists is.head) long ∙ sym is.found.persists_is ∙ keeps;
    }
  where
    body_long : (head_len body_len : ℕ) (bytes : List ℕ) → head_len + body_len ≤ length bytes → length (body_after head_len body_len bytes) ≡ body_len
    body_long head_len body_len bytes within = length-take-le body_len (drop head_len bytes) (omega (arith, within, length-drop head_len bytes))

-- the response to a head
pub replied_head : (replies : Responses) (found : FoundRequest) (old new : Connection) (history : List Event) → old.phase ≡ Parsing → HasState old history → new.limits ≡ old.limits
    → IsFoundIn replies.0 old.received.bytes.items found → found.head_len + found.body_len ≤ length old.received.bytes.items
    → HasResponded replies found.head_len found.body_len found.persists old new → HasParsed replies true new history
replied_head replies found old new history parsing state limits is within responded =
    by found.persists refl (subst (λ (p : ConnectionPhase). HasStateIn p old history) parsing state.0) responded
  where
    bytes : List ℕ
    bytes = old.received.bytes.items

    body : List ℕ
    body = body_after found.head_len found.body_len old.received.bytes.items

    taken : take found.head_len old.received.bytes.items ≡ print_request is.head
    taken = head_taken old.received.bytes.items is.head found.head_len is.begins is.found.head_len_is

    whole : print_request is.head ++ body_after found.head_len found.body_len old.received.bytes.items ≡ take (found.head_len + found.body_len) old.received.bytes.items
    whole = ap (λ t. t ++ body_after found.head_len found.body_len old.received.bytes.items) (sym taken) ∙ sym (take-add found.head_len found.body_len old.received.bytes.items)

    long : length (body_after found.head_len found.body_len old.received.bytes.items) ≡ found.body_len
    long = length-take-le found.body_len (drop found.head_len old.received.bytes.items) (omega (arith, within, length-drop found.head_len old.received.bytes.items))

    wanted : length (body_after found.head_len found.body_len old.received.bytes.items) ≡ body_len_of (replies.0 is.head) is.head
    wanted = long ∙ is.found.body_is

    keeps : (p : Bool) → found.persists ≡ p → persists is.head (length (body_after found.head_len found.body_len old.received.bytes.items)) ≡ p
    keeps p same = ap (persists is.head) long ∙ sym is.found.persists_is ∙ same

    text : (p : Bool) (reply : List ℕ) → replies.1 (take found.head_len old.received.bytes.items) (body_after found.head_len found.body_len old.received.bytes.items) p (Some reply)
        → replies.1 (print_request is.head) (body_after found.head_len found.body_len old.received.bytes.items) p (Some reply)
    text p reply has = subst (λ (t : List ℕ). replies.1 t (body_after found.head_len found.body_len old.received.bytes.items) p (Some reply)) taken has

    by : (p : Bool) → found.persists ≡ p → IsCurrent false old history → HasResponded replies found.head_len found.body_len p old new → HasMadeResponse replies new history
    by true same was (inl (reply, has, says, begins)) = inl (
      Persistent is.head (body_after found.head_len found.body_len old.received.bytes.items),
      reply,
      record { wanted = wanted; reply_of = text true reply has; says = says },
      begun reply (found.head_len + found.body_len) Persist (Persistent is.head (body_after found.head_len found.body_len old.received.bytes.items)) old new history was limits whole begins
          (persists_after old new history reply found.head_len found.body_len is.head was is.begins is.found.head_len_is (keeps true same) begins),
    )
    by false same was (inl (reply, has, says, begins)) = inl (
      Last is.head (body_after found.head_len found.body_len old.received.bytes.items),
      reply,
      record { wanted = wanted; reply_of = inl (keeps false same, text false reply has); says = says },
      begun reply (found.head_len + found.body_len) Linger (Last is.head (body_after found.head_len found.body_len old.received.bytes.items)) old new history was limits whole begins
          (ends_after old history reply found.head_len found.body_len is.head was is.begins is.found.head_len_is),
    )
    by p same was (inr (none, inl begins)) = inl (
      Last is.head (body_after found.head_len found.body_len old.received.bytes.items),
      unavailable,
      record {
        wanted = wanted;
        reply_of = inr (subst (λ (t : List ℕ). HasNoResponse replies t (body_after found.head_len found.body_len old.received.bytes.items)) taken none, refl);
        says = unavailable_says;
      },
      begun unavailable (found.head_len + found.body_len) Linger (Last is.head (body_after found.head_len found.body_len old.received.bytes.items)) old new history was limits whole begins
          (ends_after old history unavailable found.head_len found.body_len is.head was is.begins is.found.head_len_is),
    )
    by p same was (inr (none, inr aborted)) = inr (
      take found.head_len old.received.bytes.items,
      body_after found.head_len found.body_len old.received.bytes.items,
      none,
      aborted.0,
      cut old new history was state aborted,
    )

-- the response to bytes that are not a request
pub replied_invalid : (replies : Responses) (old new : Connection) (history : List Event) (size : ℕ) → old.phase ≡ Parsing → HasState old history → new.limits ≡ old.limits
    → size ≡ length old.received.bytes.items → NeverBeginsWithHead head_limit field_limit old.received.bytes.items → HasResponded replies size 0 false old new → HasParsed replies true new history
replied_invalid replies old new history size parsing state limits is never responded =
    by (subst (λ (p : ConnectionPhase). HasStateIn p old history) parsing state.0) responded
  where
    all : take size old.received.bytes.items ≡ old.received.bytes.items
    all = take_all size old.received.bytes.items (omega (arith, is))

    front : old.received.bytes.items ≡ take (size + 0) old.received.bytes.items
    front = sym (take_all (size + 0) old.received.bytes.items (omega (arith, is)))

    no_bytes : (xs : List ℕ) → take 0 xs ≡ []
    no_bytes [] = refl
    no_bytes (x ∷ xs) = refl

    none_after : body_after size 0 old.received.bytes.items ≡ []
    none_after = no_bytes (drop size old.received.bytes.items)

    no_response : HasNoResponse replies (take size old.received.bytes.items) (body_after size 0 old.received.bytes.items) → HasNoResponse replies old.received.bytes.items []
    no_response none = (
      none.0,
      subst (λ (t : List ℕ). replies.1 t [] none.0 None) all
          (subst (λ (t : List ℕ). replies.1 (take size old.received.bytes.items) t none.0 None) none_after none.1),
    )

    by : IsCurrent false old history → HasResponded replies size 0 false old new → HasMadeResponse replies new history
    by was (inl (reply, has, says, begins)) = inl (
      Invalid old.received.bytes.items,
      reply,
      record {
        wanted = tt;
        reply_of = inl (subst (λ (t : List ℕ). replies.1 t [] false (Some reply)) all
            (subst (λ (t : List ℕ). replies.1 (take size old.received.bytes.items) t false (Some reply)) none_after has));
        says = says;
      },
      begun reply (size + 0) Linger (Invalid old.received.bytes.items) old new history was limits front begins (invalid_after old history reply was never),
    )
    by was (inr (none, inl begins)) = inl (
      Invalid old.received.bytes.items,
      unavailable,
      record { wanted = tt; reply_of = inr (no_response none, refl); says = unavailable_says },
      begun unavailable (size + 0) Linger (Invalid old.received.bytes.items) old new history was limits front begins (invalid_after old history unavailable was never),
    )
    by was (inr (none, inr aborted)) = inr (
      take size old.received.bytes.items,
      body_after size 0 old.received.bytes.items,
      none,
      aborted.0,
      cut old new history was state aborted,
    )

-- ---- the connection waits for a body

-- what it waits with
still : (old new : Connection) (history : List Event) → IsCurrent false old history → new.limits ≡ old.limits → IsSameButPhase old new → IsCurrent false new history
still old new history was limits same = record {
  served = subst (IsServedUpTo history) (sym same.received) was.served;
  knows = rw same.is_continued was.knows;
  sent = was.sent;
  in_time = record {
    idleness = was.in_time.idleness;
    counted_time = same.elapsed ∙ was.in_time.counted_time;
    counted_bytes = same.sent_since ∙ was.in_time.counted_bytes;
    left = rw (same.elapsed, limits) was.in_time.left;
  };
}

-- and so it does as the head is found in the bytes held
pub parsed_still : (old new : Connection) (history : List Event) → old.phase ≡ Parsing → new.received.bytes.items ≡ old.received.bytes.items → new.phase ≡ old.phase
    → new.limits ≡ old.limits → new.is_continued ≡ old.is_continued → new.sent_len ≡ old.sent_len → new.sent_since ≡ old.sent_since → new.elapsed ≡ old.elapsed
    → new.request_len ≡ old.request_len → HasState old history → HasState new history
parsed_still old new history parsing held phase limits continued counted since anew size state = (
  subst (λ (p : ConnectionPhase). HasStateIn p new history) (sym (phase ∙ parsing)) (still old new history (subst (λ (p : ConnectionPhase). HasStateIn p old history) parsing state.0) limits
      (record { received = held; is_continued = continued; sent_len = counted; sent_since = since; elapsed = anew; request_len = size })),
  counted ∙ state.1,
  knows_still old new history history refl size held state.2,
)

-- the head is not whole
pub unfinished : (old new : Connection) (history : List Event) → old.phase ≡ Parsing → HasState old history → new.limits ≡ old.limits → new.phase ≡ Receiving
    → IsSameButPhase old new → IsUnfinished head_limit old.received.bytes.items → HasWaited new history
unfinished old new history parsing state limits phase same is = inl (
  phase,
  (
    subst (λ (p : ConnectionPhase). HasStateIn p new history) (sym phase) (record {
      current = still old new history (subst (λ (p : ConnectionPhase). HasStateIn p old history) parsing state.0) limits same;
      incomplete = inl (subst (IsUnfinished head_limit) (sym same.received) is);
    }),
    same.sent_len ∙ state.1,
    knows_still old new history history refl same.request_len same.received state.2,
  ),
)

both_true : (a b : Bool) → (a && not b) ≡ true → (a ≡ true) × (b ≡ false)
both_true true true is = absurd (cc)
both_true true false is = (refl, refl)
both_true false b is = absurd (cc)

one_false : (a b : Bool) → (a && not b) ≡ false → a ≡ true → b ≡ true
one_false true true is has = refl
one_false true false is has = absurd (cc)
one_false false b is has = absurd (cc)

-- the length of a body that is not whole is the one that the head states
stated_is : (wanted size : ℕ) (head : RequestHead) → size ≡ body_len_of wanted head → 0 < size → states_len head size ≡ true
stated_is wanted size head is some = by (cases_Bool (states_len head wanted))
  where
    by : (states_len head wanted ≡ true) ⊎ (states_len head wanted ≡ false) → states_len head size ≡ true
    by (inl states) = let same : size ≡ wanted = is ∙ rw states refl in subst (λ n. states_len head n ≡ true) (sym same) states
    by (inr lacks) = let zero : size ≡ 0 = is ∙ rw lacks refl in absurd (omega (arith, zero, some))

-- the bytes held do not have the body
pub waited : (wanted : RequestHead → ℕ) (found : FoundRequest) (old new : Connection) (history : List Event) → old.phase ≡ Parsing → HasState old history → new.limits ≡ old.limits
    → IsFoundIn wanted old.received.bytes.items found → length old.received.bytes.items < found.head_len + found.body_len
    → HasBegunWait (found.expects_continue && not old.is_continued) old new → HasWaited new history
waited wanted found old new history parsing state limits is missing waits =
    by (found.expects_continue && not old.is_continued) refl (subst (λ (p : ConnectionPhase). HasStateIn p old history) parsing state.0) waits
  where
    by : (b : Bool) → (found.expects_continue && not old.is_continued) ≡ b → IsCurrent false old history → HasBegunWait b old new → HasWaited new history
    by true both was (inl has) =
        let facts = both_true found.expects_continue old.is_continued both in
        let none : interim history ≡ [] = was.knows ∙ rw facts.1 refl in
        inr (inl (
          subst (λ (p : ConnectionPhase). HasStateIn p new (Continued ∷ history)) (sym has.phase) (record {
            after = subst (λ (a : AfterResponse). IsAfterResponse a new (Continued ∷ history)) (sym has.after_is) (
              record {
                in_order = rw has.received was.served.in_order;
                persists = was.served.persists;
                expected = (was.served.expected.0, inr (rw none refl, (is.head, rw has.received is.begins, sym is.found.expects_is ∙ facts.0)));
              },
              rw (none, has.is_continued) refl,
            );
            sent = rw (has.sent, has.text) (ap (λ t. t ++ continue_text) was.sent);
            more = rw (has.sent, has.text) (omega arith);
            sent_is = has.sent;
            reply_is = has.text;
            in_time = record {
              idleness = refl;
              counted_time = has.elapsed ∙ was.in_time.counted_time;
              counted_bytes = has.sent_since ∙ was.in_time.counted_bytes;
              left = rw (has.elapsed, limits) was.in_time.left;
            };
          }),
          has.sent_len,
          knows_still old new history (Continued ∷ history) refl has.request_len has.received state.2,
        ))
    by true both was (inr aborted) = inr (inr (aborted.0, cut old new history was state aborted))
    by false none was (phase, same) = inl (
      phase,
      (
        subst (λ (p : ConnectionPhase). HasStateIn p new history) (sym phase) (record {
          current = still old new history was limits same;
          incomplete = inr (record {
            head = is.head;
            begins = rw same.received is.begins;
            size = found.body_len;
            states = stated_is (wanted is.head) found.body_len is.head is.found.body_is (omega (arith, is.within, missing));
            small = is.small;
            missing = rw same.received (omega (arith, missing, is.found.head_len_is));
            told = λ expects. same.is_continued ∙ one_false found.expects_continue old.is_continued none (is.found.expects_is ∙ expects);
          });
        }),
        same.sent_len ∙ state.1,
        knows_still old new history history refl same.request_len same.received state.2,
      ),
    )

-- ---- bytes are sent

-- the timer restarts once the peer accepted enough
pub record HasCounted (count : ℕ) (old new : Connection) : Type 0 where
  pub sent_since : new.sent_since ≡ cond (nat_le min_progress (old.sent_since + count)) 0 (old.sent_since + count)
  pub elapsed : new.elapsed ≡ cond (nat_le min_progress (old.sent_since + count)) 0 old.elapsed

pub counted_anew : (count : ℕ) (old new : Connection) → min_progress - old.sent_since ≤ count → new.sent_since ≡ 0 → new.elapsed ≡ 0 → HasCounted count old new
counted_anew count old new le none again =
    let enough : nat_le min_progress (old.sent_since + count) ≡ true = grind (arith, nat_tests) in
    record { sent_since = rw enough none; elapsed = rw enough again }

pub counted_on : (count : ℕ) (old new : Connection) → count < min_progress - old.sent_since → new.sent_since ≡ old.sent_since + count → new.elapsed ≡ old.elapsed → HasCounted count old new
counted_on count old new lt more same =
    let few : nat_le min_progress (old.sent_since + count) ≡ false = grind (arith, nat_tests) in
    record { sent_since = rw few more; elapsed = rw few same }

-- the time, as the peer accepted these bytes
in_time : (old new : Connection) (history : List Event) (bytes : List ℕ) (count : ℕ) → length bytes ≡ count → HasCounted count old new → new.limits ≡ old.limits
    → IsInTime false old history → IsInTime false new (Sent bytes ∷ history)
in_time old new history bytes count long counts limits was = by (cases_Bool (nat_le min_progress (old.sent_since + count)))
  where
    by : (nat_le min_progress (old.sent_since + count) ≡ true) ⊎ (nat_le min_progress (old.sent_since + count) ≡ false) → IsInTime false new (Sent bytes ∷ history)
    by (inl enough) = record {
      idleness = was.idleness;
      counted_time = rw (long, sym was.counted_bytes, enough) (counts.elapsed ∙ rw enough refl);
      counted_bytes = rw (long, sym was.counted_bytes, enough) (counts.sent_since ∙ rw enough refl);
      left = rw (counts.elapsed, enough, limits) (omega (arith, was.left));
    }
    by (inr few) = record {
      idleness = was.idleness;
      counted_time = rw (long, sym was.counted_bytes, few) (counts.elapsed ∙ rw few was.counted_time);
      counted_bytes = rw (long, sym was.counted_bytes, few) (counts.sent_since ∙ rw few refl);
      left = rw (counts.elapsed, few, limits) was.left;
    }

-- what a send leaves as it is
pub record IsSameButSent (old new : Connection) : Type 0 where
  pub received : new.received ≡ old.received
  pub request_len : new.request_len ≡ old.request_len
  pub after : new.after ≡ old.after
  pub continued : new.is_continued ≡ old.is_continued
  pub limits : new.limits ≡ old.limits

after_same : (after : AfterResponse) (old new : Connection) (history : List Event) (bytes : List ℕ) → IsSameButSent old new
    → IsAfterResponse after old history → IsAfterResponse after new (Sent bytes ∷ history)
after_same Persist old new history bytes same is = (
  record {
    in_order = rw (same.received, same.request_len) is.0.in_order;
    persists = is.0.persists;
    expected = (is.0.expected.0, rw (same.received, same.request_len) is.0.expected.1);
  },
  is.1,
)
after_same Receive old new history bytes same is = (
  record {
    in_order = rw same.received is.0.in_order;
    persists = is.0.persists;
    expected = (is.0.expected.0, rw same.received is.0.expected.1);
  },
  rw same.continued is.1,
)
after_same Linger old new history bytes same is = is

-- the responses are the bytes sent before, those sent now, and the rest
went_on : (reply : List ℕ) (sent count : ℕ) (before replies : List ℕ) → replies ≡ before ++ drop sent reply
    → replies ≡ (before ++ take count (drop sent reply)) ++ drop (sent + count) reply
went_on reply sent count before replies is =
    is ∙ ap (λ t. before ++ t) (sym (take-append-drop count (drop sent reply))) ∙ sym (append_assoc before (take count (drop sent reply)) (drop count (drop sent reply)))
    ∙ ap (λ t. (before ++ take count (drop sent reply)) ++ t) (drop-drop count sent reply)

-- the peer accepted a part of the pending response
pub sent_part : (phase : ConnectionPhase) (old new : Connection) (history : List Event) (count : ℕ) → 0 < count → count ≤ length (pending_in phase old)
    → IsSameButSent old new → new.reply ≡ old.reply → new.sent ≡ old.sent + count → HasCounted count old new → count ≢ length old.reply.items - old.sent
    → HasStateIn phase old history → HasStateIn phase new (Sent (take count (pending_in phase old)) ∷ history)
sent_part Idle old new history count some within same reply sent counts other state = absurd (omega (arith, some, within))
sent_part Receiving old new history count some within same reply sent counts other state = absurd (omega (arith, some, within))
sent_part Parsing old new history count some within same reply sent counts other state = absurd (omega (arith, some, within))
sent_part Answered old new history count some within same reply sent counts other state = absurd (omega (arith, some, within))
sent_part Lingering old new history count some within same reply sent counts other state = absurd (omega (arith, some, within))
sent_part Complete old new history count some within same reply sent counts other state = absurd (omega (arith, some, within))
sent_part Aborted old new history count some within same reply sent counts other state = absurd (omega (arith, some, within))
sent_part Sending old new history count some within same reply sent counts other state =
    let bytes : List ℕ = take count (drop old.sent old.reply.items) in
    let long : length bytes ≡ count = length-take-le count (drop old.sent old.reply.items) within in
    record {
      after = subst (λ (a : AfterResponse). IsAfterResponse a new (Sent bytes ∷ history)) (sym same.after)
          (after_same old.after old new history bytes same state.after);
      sent = rw (reply, sent) (went_on old.reply.items old.sent count (sent_bytes history) (response_bytes history) state.sent);
      more = rw (reply, sent) (omega (arith, state.more, within, other, length-drop old.sent old.reply.items));
      sent_is = sent ∙ rw (long, state.sent_is) refl;
      reply_is = ap (λ text. text.items) reply ∙ state.reply_is;
      in_time = in_time old new history bytes count long counts same.limits state.in_time;
    }

-- the peer accepted all of it
pub sent_whole : (phase : ConnectionPhase) (old new : Connection) (history : List Event) (count : ℕ) → 0 < count → count ≤ length (pending_in phase old)
    → IsSameButSent old new → HasCounted count old new → count ≡ length old.reply.items - old.sent → new.reply.items ≡ [] → new.phase ≡ phase_after old.after
    → HasStateIn phase old history → HasPhase new (Sent (take count (pending_in phase old)) ∷ history)
sent_whole Idle old new history count some within same counts all freed is state = absurd (omega (arith, some, within))
sent_whole Receiving old new history count some within same counts all freed is state = absurd (omega (arith, some, within))
sent_whole Parsing old new history count some within same counts all freed is state = absurd (omega (arith, some, within))
sent_whole Answered old new history count some within same counts all freed is state = absurd (omega (arith, some, within))
sent_whole Lingering old new history count some within same counts all freed is state = absurd (omega (arith, some, within))
sent_whole Complete old new history count some within same counts all freed is state = absurd (omega (arith, some, within))
sent_whole Aborted old new history count some within same counts all freed is state = absurd (omega (arith, some, within))
sent_whole Sending old new history count some within same counts all freed is state =
    let bytes : List ℕ = take count (drop old.sent old.reply.items) in
    let long : length bytes ≡ count = length-take-le count (drop old.sent old.reply.items) within in
    let none : drop (old.sent + count) old.reply.items ≡ [] = drop_all (old.sent + count) old.reply.items (omega (arith, all)) in
    subst (λ (p : ConnectionPhase). HasStateIn p new (Sent bytes ∷ history)) (sym is)
    (done old.after new (Sent bytes ∷ history) (after_same old.after old new history bytes same state.after)
    (went_on old.reply.items old.sent count (sent_bytes history) (response_bytes history) state.sent ∙ ap (λ t. (sent_bytes history ++ bytes) ++ t) none
    ∙ append-nil (sent_bytes history ++ bytes))
    freed
    (in_time old new history bytes count long counts same.limits state.in_time))

-- the bytes of the response that were sent, as the peer accepted some
pub counted_sent : (phase : ConnectionPhase) (old : Connection) (history : List Event) (count : ℕ) → 0 < count → count ≤ length (pending_in phase old)
    → HasStateIn phase old history → old.sent + count ≡ sent_len (Sent (take count (pending_in phase old)) ∷ history)
counted_sent Idle old history count some within state = absurd (omega (arith, some, within))
counted_sent Receiving old history count some within state = absurd (omega (arith, some, within))
counted_sent Parsing old history count some within state = absurd (omega (arith, some, within))
counted_sent Answered old history count some within state = absurd (omega (arith, some, within))
counted_sent Lingering old history count some within state = absurd (omega (arith, some, within))
counted_sent Complete old history count some within state = absurd (omega (arith, some, within))
counted_sent Aborted old history count some within state = absurd (omega (arith, some, within))
counted_sent Sending old history count some within state =
    rw (length-take-le count (drop old.sent old.reply.items) within, state.sent_is) refl

-- ---- the connection resumes

pub resumed : (old new : Connection) (history : List Event) → old.phase ≡ Answered → HasPhase old history → new.received.bytes.items ≡ rest_of old → new.is_continued ≡ false
    → new.elapsed ≡ 0 → new.sent_since ≡ 0 → 0 < new.limits.step → 0 < new.limits.idle → (idle : Bool) → idle ≡ (vec_len new.received.bytes == 0)
    → new.phase ≡ cond idle Idle Parsing → HasPhase new (Resumed (length (rest_of old) == 0) ∷ history)
resumed old new history answered state held continued anew since step_some idle_some idle is phase =
    by idle (is ∙ ap (λ n. n == 0) (long ∙ ap length held)) phase
  where
    long : vec_len new.received.bytes ≡ length new.received.bytes.items
    long = (cc)

    was : HasStateIn Answered old history
    was = subst (λ (p : ConnectionPhase). HasStateIn p old history) answered state

    current : (i : Bool) → i ≡ (length (rest_of old) == 0) → 0 < limit_in i new.limits → IsCurrent i new (Resumed (length (rest_of old) == 0) ∷ history)
    current i same left = record {
      served = record { in_order = rw held was.served.in_order; persists = was.served.persists; expected = (was.served.expected.0, rw held was.served.expected.1) };
      knows = rw continued was.no_interim;
      sent = was.sent;
      in_time = record { idleness = sym same; counted_time = anew; counted_bytes = since; left = rw anew left };
    }

    none_left : (xs : List ℕ) → (length xs == 0) ≡ true → xs ≡ []
    none_left [] none = refl
    none_left (x ∷ xs) none = let zero : suc (length xs) ≡ 0 = eqb-true (length (x ∷ xs)) 0 none in absurd (omega (arith, zero))

    by : (i : Bool) → i ≡ (length (rest_of old) == 0) → new.phase ≡ cond i Idle Parsing → HasPhase new (Resumed (length (rest_of old) == 0) ∷ history)
    by true same phase_is = subst (λ (p : ConnectionPhase). HasStateIn p new (Resumed (length (rest_of old) == 0) ∷ history)) (sym phase_is)
        (record { current = current true same idle_some; none = held ∙ none_left (rest_of old) (sym same) })
    by false same phase_is = subst (λ (p : ConnectionPhase). HasStateIn p new (Resumed (length (rest_of old) == 0) ∷ history)) (sym phase_is) (current false same step_some)

-- ---- the laws

first_after : (after : AfterResponse) (connection : Connection) (history : List Event) → IsAfterResponse after connection history → AreFirst history
first_after Persist connection history is = first_of history (rest_of connection) is.0
first_after Linger connection history is = is.0
first_after Receive connection history is = first_of history connection.received.bytes.items is.0

pub first_in : (phase : ConnectionPhase) (connection : Connection) (history : List Event) → HasStateIn phase connection history → AreFirst history
first_in Idle connection history state = first_of history connection.received.bytes.items state.current.served
first_in Receiving connection history state = first_of history connection.received.bytes.items state.current.served
first_in Parsing connection history state = first_of history connection.received.bytes.items state.served
first_in Sending connection history state = first_after connection.after connection history state.after
first_in Answered connection history state = first_of history (rest_of connection) state.served
first_in Lingering connection history state = state.complete.ended.0
first_in Complete connection history state = state.ended.0
first_in Aborted connection history state = state.0

all_front : (history : List Event) → AreSent history → IsFrontSent history
all_front history sent = ([], sent ∙ sym (append-nil (sent_bytes history)))

pub front_in : (phase : ConnectionPhase) (connection : Connection) (history : List Event) → HasStateIn phase connection history → IsFrontSent history
front_in Idle connection history state = all_front history state.current.sent
front_in Receiving connection history state = all_front history state.current.sent
front_in Parsing connection history state = all_front history state.sent
front_in Sending connection history state = (drop connection.sent connection.reply.items, state.sent)
front_in Answered connection history state = all_front history state.sent
front_in Lingering connection history state = all_front history state.complete.sent
front_in Complete connection history state = all_front history state.sent
front_in Aborted connection history state = state.1

pub all_served : (replies : Responses) → AllIsServed replies
all_served replies connection history state are =
    let first = first_in connection.phase connection history state.0 in
    let front = front_in connection.phase connection history state.0 in
    record {
      exchanges = exchanges history;
      rest = first.0;
      pending = interim history;
      unsent = front.0;
      in_order = subst (λ (requests : List Request). AreRequestsIn (received_bytes history) requests first.0) (sym (exchanges_asked history)) first.1;
      replied = exchanges_replied replies history first.2.0 are;
      expected = first.2.1;
      front = exchanges_responses history ∙ front.1;
    }

-- there is room for more of a request that is not whole
has_room : (is_continued : Bool) (bytes : List ℕ) → IsIncomplete is_continued bytes → 0 < request_limit - length bytes
has_room is_continued bytes (inl is) = omega (arith, is.short)
has_room is_continued bytes (inr is) = omega (arith, is.missing, is.small, is.begins.short)

-- past its time a connection waits for nothing
late_is_out : (idle : Bool) (connection : Connection) (history : List Event) → IsInTime idle connection history → limit_in (is_idle history) connection.limits ≤ elapsed history → ⊥
late_is_out idle connection history time late =
    let over : limit_in idle connection.limits ≤ elapsed history = subst (λ b. limit_in b connection.limits ≤ elapsed history) time.idleness late in
    omega (arith, over, time.counted_time, time.left)

closes_in : (phase : ConnectionPhase) (connection : Connection) (history : List Event) → HasStateIn phase connection history
    → limit_in (is_idle history) connection.limits ≤ elapsed history → wants_in phase ≡ wants.Close
closes_in Idle connection history state late = absurd (late_is_out true connection history state.current.in_time late)
closes_in Receiving connection history state late = absurd (late_is_out false connection history state.current.in_time late)
closes_in Parsing connection history state late = absurd (late_is_out false connection history state.in_time late)
closes_in Sending connection history state late = absurd (late_is_out false connection history state.in_time late)
closes_in Answered connection history state late = absurd (late_is_out false connection history state.in_time late)
closes_in Lingering connection history state late = absurd (late_is_out false connection history state.in_time late)
closes_in Complete connection history state late = refl
closes_in Aborted connection history state late = refl

whole_in : (phase : ConnectionPhase) (connection : Connection) (history : List Event) → HasStateIn phase connection history → is_response_sent_in phase ≡ true
    → AreSent history × (connection.reply.items ≡ [])
whole_in Answered connection history state is = (state.sent, state.freed)
whole_in Lingering connection history state is = (state.complete.sent, state.complete.freed)
whole_in Complete connection history state is = (state.sent, state.freed)
whole_in phase connection history state is = absurd (cc)

persists_in : (phase : ConnectionPhase) (connection : Connection) (history : List Event) → HasStateIn phase connection history → phase ≡ Answered → all_persist (requests_in history) ≡ true
persists_in Answered connection history state is = state.served.persists
persists_in phase connection history state is = absurd (cc)

ends_in : (phase : ConnectionPhase) (connection : Connection) (history : List Event) → HasStateIn phase connection history → (phase ≡ Lingering) ⊎ (phase ≡ Complete)
    → all_persist (requests_in history) ≡ false
ends_in Lingering connection history state over = state.complete.ended.1
ends_in Complete connection history state over = state.ended.1
ends_in phase connection history state (inl is) = absurd (cc)
ends_in phase connection history state (inr is) = absurd (cc)

waits_in : (phase : ConnectionPhase) (connection : Connection) (history : List Event) → HasStateIn phase connection history → phase ≡ Receiving
    → AreSent history × IsServedUpTo history connection.received.bytes.items × IsIncomplete connection.is_continued connection.received.bytes.items
waits_in Receiving connection history state is = (state.current.sent, state.current.served, state.incomplete)
waits_in phase connection history state is = absurd (cc)

idles_in : (phase : ConnectionPhase) (connection : Connection) (history : List Event) → HasStateIn phase connection history → phase ≡ Idle → AreSent history × IsServedUpTo history []
idles_in Idle connection history state is = (state.current.sent, subst (IsServedUpTo history) state.none state.current.served)
idles_in phase connection history state is = absurd (cc)

reads_in : (phase : ConnectionPhase) (connection : Connection) (history : List Event) → HasStateIn phase connection history → wants_in phase ≡ wants.Bytes → 0 < room_in phase connection
reads_in Idle connection history state is = omega (arith, ap length state.none)
reads_in Receiving connection history state is = has_room connection.is_continued connection.received.bytes.items state.incomplete
reads_in Lingering connection history state is = omega arith
reads_in phase connection history state is = absurd (cc)

pub state_right : StateIsRight
state_right connection history state = record {
  first = first_in connection.phase connection history state.0;
  front = front_in connection.phase connection history state.0;
  whole = whole_in connection.phase connection history state.0;
  frees = λ not_sending opened. connection.freed (λ is. not_sending (ap wants_in is)) (λ is. opened (ap wants_in is));
  persists = persists_in connection.phase connection history state.0;
  ends = ends_in connection.phase connection history state.0;
  waits = waits_in connection.phase connection history state.0;
  idles = idles_in connection.phase connection history state.0;
  reads = reads_in connection.phase connection history state.0;
  closes = closes_in connection.phase connection history state.0;
}
