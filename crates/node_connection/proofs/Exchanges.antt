-- The requests in the bytes received, as more bytes are received and more requests are answered.
use Rattle.std.proofs.Common.{◌≡◌, ◌+◌, ℕ, Bool, true, false, List, [], ◌∷◌, ◌++◌, length, take, drop, Option, Some, None, refl, sym, ap, ◌∙◌, subst, append_assoc, append-nil, ◌⊎◌, inl, inr}
use Rattle.std.proofs.Common.{eqb-true, take-append-drop}
use Rattle.std.specs.Prelude.{◌==◌, ◌&&◌, ◌||◌, not, nat_lt}
use Rattle.std.specs.Option.{option_map_or}
use Rattle.std.proofs.lemmas.List.{take_at, drop_at, drop-drop}
use Rattle.httparse.specs.Grammar.{RequestHead, ReadsRequest, print_request}
use Rattle.httparse.proofs.GrammarLemmas.{ReadsRequest-append, request_unique}
use Rattle.feed_http_heads.specs.Limits.{head_limit, field_limit}
use Rattle.feed_http_heads.specs.RequestHeads.{BeginsWithHead}
use Rattle.feed_http_heads.specs.Options.{lacks_close}
use Rattle.node_connection.specs.Requests.{Request, Persistent, Last, Invalid, AreRequestsIn, Begins, is_post, stated_len, states_len, persists}
use Rattle.node_connection.specs.Requests.{all_persist, heads_in, IsFrontOf}
use Rattle.node_connection.specs.Events.{Event, Received, Responded, Sent, Continued, Resumed, Elapsed, response_bytes, requests_in, interim, continue_text}
use Rattle.node_connection.specs.Responses.{Responses, AreRespondedTo, Exchange, requests_of, responses_of}
use Rattle.node_connection.specs.States.{AreInterims}
use Rattle.node_connection.specs.Streams.{AreResponses}

-- bytes that begin with a head still do if more follow
pub begins_on : (bytes more : List ℕ) (head : RequestHead) → BeginsWithHead head_limit field_limit bytes head → BeginsWithHead head_limit field_limit (bytes ++ more) head
begins_on bytes more head b = record { rest = b.rest ++ more; reads = ReadsRequest-append bytes head b.rest more b.reads; short = b.short; few = b.few }

-- and so do those that begin with a head and its body
abbrev whole_on : (bytes more : List ℕ) (head : RequestHead) (body : List ℕ) → Begins bytes head body → Begins (bytes ++ more) head body
whole_on bytes more head body b = record {
  rest = b.rest ++ more;
  reads = subst (ReadsRequest (bytes ++ more) head) (append_assoc body b.rest more) (ReadsRequest-append bytes head (body ++ b.rest) more b.reads);
  short = b.short;
  few = b.few;
}

-- more bytes leave the requests as they are
pub requests_on : (requests : List Request) (bytes rest more : List ℕ) → AreRequestsIn bytes requests rest → AreRequestsIn (bytes ++ more) requests (rest ++ more)
requests_on [] bytes rest more are = ap (λ t. t ++ more) are
requests_on (Persistent head body ∷ requests) bytes rest more are =
    (whole_on bytes more head body are.0, are.1, requests_on requests are.0.rest rest more are.2)
requests_on (Last head body ∷ requests) bytes rest more are = (whole_on bytes more head body are.0, are.1)
requests_on (Invalid text ∷ requests) bytes rest more are = (ap (λ t. t ++ more) are.0 ∙ append_assoc text rest more, are.1, are.2)

-- another request after those after which the connection persists
pub requests_with : (requests : List Request) (bytes rest : List ℕ) (another : Request) (behind : List ℕ) → all_persist requests ≡ true
    → AreRequestsIn bytes requests rest → AreRequestsIn rest (another ∷ []) behind → AreRequestsIn bytes (requests ++ another ∷ []) behind
requests_with [] bytes rest another behind keep are is = subst (λ t. AreRequestsIn t (another ∷ []) behind) (sym are) is
requests_with (Persistent head body ∷ requests) bytes rest another behind keep are is =
    (are.0, are.1, requests_with requests are.0.rest rest another behind keep are.2 is)
requests_with (Last head body ∷ requests) bytes rest another behind keep are is = absurd (cc)
requests_with (Invalid text ∷ requests) bytes rest another behind keep are is = absurd (cc)

pub all_persist_with : (requests : List Request) (head : RequestHead) (body : List ℕ) → all_persist requests ≡ true
    → all_persist (requests ++ Persistent head body ∷ []) ≡ true
all_persist_with [] head body keep = refl
all_persist_with (Persistent other text ∷ requests) head body keep = all_persist_with requests head body keep
all_persist_with (Last other text ∷ requests) head body keep = absurd (cc)
all_persist_with (Invalid text ∷ requests) head body keep = absurd (cc)

-- one that ends the connection
pub ends_with : (requests : List Request) (head : RequestHead) (body : List ℕ) → all_persist (requests ++ Last head body ∷ []) ≡ false
ends_with [] head body = refl
ends_with (Persistent other text ∷ requests) head body = ends_with requests head body
ends_with (Last other text ∷ requests) head body = refl
ends_with (Invalid text ∷ requests) head body = refl

pub ends_with_none : (requests : List Request) (text : List ℕ) → all_persist (requests ++ Invalid text ∷ []) ≡ false
ends_with_none [] text = refl
ends_with_none (Persistent other body ∷ requests) text = ends_with_none requests text
ends_with_none (Last other body ∷ requests) text = refl
ends_with_none (Invalid other ∷ requests) text = refl

-- ---- the bytes contain no other requests

one_more : (h k : RequestHead) (xs ys : List RequestHead) → h ≡ k → IsFrontOf xs ys ⊎ IsFrontOf ys xs → IsFrontOf (h ∷ xs) (k ∷ ys) ⊎ IsFrontOf (k ∷ ys) (h ∷ xs)
one_more h k xs ys same (inl is) = inl (is.0, rw (same, is.1) refl)
one_more h k xs ys same (inr is) = inr (is.0, rw (same, is.1) refl)

none_first : (xs : List RequestHead) → IsFrontOf [] xs
none_first xs = (xs, refl)

-- the first heads are the same, and so are the bytes after them
same_head : (bytes : List ℕ) (h k : RequestHead) (xs ys : List ℕ) (b : Begins bytes h xs) (d : Begins bytes k ys) → (h ≡ k) × (xs ++ b.rest ≡ ys ++ d.rest)
same_head bytes h k xs ys b d = let one = request_unique bytes h k (xs ++ b.rest) (ys ++ d.rest) b.reads d.reads in (one.0, one.1)

-- a head states one length
one_len : (stated : Option ℕ) (a b : ℕ) → option_map_or (λ n. n == a) stated false ≡ true → option_map_or (λ n. n == b) stated false ≡ true → a ≡ b
one_len None a b is has = absurd (cc)
one_len (Some n) a b is has = sym (eqb-true n a is) ∙ eqb-true n b has

and_last : (a b : Bool) → (a && b) ≡ true → b ≡ true
and_last true b is = is
and_last false b is = absurd (cc)

persistent_len : (head : RequestHead) (size : ℕ) → persists head size ≡ true → states_len head size ≡ true
persistent_len head size keeps =
    and_last (lacks_close head.fields) (states_len head size)
    (and_last (not (is_post head) || nat_lt 0 size) (lacks_close head.fields && states_len head size)
    (and_last (head.minor == 1) ((not (is_post head) || nat_lt 0 size) && (lacks_close head.fields && states_len head size)) keeps))

-- and so are the bytes after their bodies
same_rest : (h k : RequestHead) (xs ys rest others : List ℕ) → h ≡ k → persists h (length xs) ≡ true → persists k (length ys) ≡ true → xs ++ rest ≡ ys ++ others → rest ≡ others
same_rest h k xs ys rest others same keeps holds is =
    let long : length xs ≡ length ys = one_len (stated_len h) (length xs) (length ys) (persistent_len h (length xs) keeps)
    (subst (λ (t : RequestHead). states_len t (length ys) ≡ true) (sym same) (persistent_len k (length ys) holds)) in
    sym (drop_at xs rest (length xs) refl) ∙ ap (drop (length xs)) is ∙ drop_at ys others (length xs) (sym long)

pub one_list : (these those : List Request) (bytes rest others : List ℕ) → AreRequestsIn bytes these rest → AreRequestsIn bytes those others
    → IsFrontOf (heads_in these) (heads_in those) ⊎ IsFrontOf (heads_in those) (heads_in these)
one_list [] those bytes rest others a b = inl (none_first (heads_in those))
one_list (Persistent h xs ∷ these) [] bytes rest others a b = inr (none_first (heads_in (Persistent h xs ∷ these)))
one_list (Persistent h xs ∷ these) (Persistent k ys ∷ those) bytes rest others a b =
    let one = same_head bytes h k xs ys a.0 b.0 in
    one_more h k (heads_in these) (heads_in those) one.0
    (one_list these those b.0.rest rest others
    (subst (λ (t : List ℕ). AreRequestsIn t these rest) (same_rest h k xs ys a.0.rest b.0.rest one.0 a.1 b.1 one.1) a.2) b.2)
one_list (Persistent h xs ∷ these) (Last k ys ∷ those) bytes rest others a b =
    let one = same_head bytes h k xs ys a.0 b.0 in
    inr (heads_in these, rw (one.0, b.1) refl)
one_list (Persistent h xs ∷ these) (Invalid text ∷ those) bytes rest others a b = inr (heads_in (Persistent h xs ∷ these), rw b.2 refl)
one_list (Last h xs ∷ these) [] bytes rest others a b = inr (none_first (heads_in (Last h xs ∷ these)))
one_list (Last h xs ∷ these) (Persistent k ys ∷ those) bytes rest others a b =
    let one = same_head bytes h k xs ys a.0 b.0 in
    inl (heads_in those, rw (one.0, a.1) refl)
one_list (Last h xs ∷ these) (Last k ys ∷ those) bytes rest others a b =
    let one = same_head bytes h k xs ys a.0 b.0 in
    inl ([], rw (one.0, a.1, b.1) refl)
one_list (Last h xs ∷ these) (Invalid text ∷ those) bytes rest others a b = inr (heads_in (Last h xs ∷ these), rw b.2 refl)
one_list (Invalid text ∷ these) those bytes rest others a b = inl (heads_in those, rw a.2 refl)

-- the bytes of the first head, those after it, and those after its body
pub head_taken : (bytes : List ℕ) (head : RequestHead) (size : ℕ) → BeginsWithHead head_limit field_limit bytes head → size ≡ length (print_request head)
    → take size bytes ≡ print_request head
head_taken bytes head size begins is = ap (take size) begins.reads.1 ∙ take_at (print_request head) begins.rest size (sym is)

pub head_dropped : (bytes : List ℕ) (head : RequestHead) (size : ℕ) → (begins : BeginsWithHead head_limit field_limit bytes head) → size ≡ length (print_request head)
    → drop size bytes ≡ begins.rest
head_dropped bytes head size begins is = ap (drop size) begins.reads.1 ∙ drop_at (print_request head) begins.rest size (sym is)

-- the bytes begin with a head and the bytes after it, as many as there may be
abbrev pub whole_begins : (bytes : List ℕ) (head : RequestHead) (head_len body_len : ℕ) → BeginsWithHead head_limit field_limit bytes head → head_len ≡ length (print_request head)
    → Begins bytes head (take body_len (drop head_len bytes))
whole_begins bytes head head_len body_len begins is = record {
  rest = drop (head_len + body_len) bytes;
  reads = (
    begins.reads.0,
    begins.reads.1 ∙ ap (λ t. print_request head ++ t)
        (sym (head_dropped bytes head head_len begins is) ∙ sym (take-append-drop body_len (drop head_len bytes))
        ∙ ap (λ t. take body_len (drop head_len bytes) ++ t) (drop-drop body_len head_len bytes)),
  );
  short = begins.short;
  few = begins.few;
}

-- ---- the requests with their responses

-- the exchanges of a history
abbrev pub exchanges : List Event → List Exchange
exchanges [] = []
exchanges (Received bytes ∷ earlier) = exchanges earlier
exchanges (Responded request text ∷ earlier) = exchanges earlier ++ record { request = request; interim = interim earlier; reply = text } ∷ []
exchanges (Sent bytes ∷ earlier) = exchanges earlier
exchanges (Continued ∷ earlier) = exchanges earlier
exchanges (Resumed idle ∷ earlier) = exchanges earlier
exchanges (Elapsed millis ∷ earlier) = exchanges earlier

requests-append : (these those : List Exchange) → requests_of (these ++ those) ≡ requests_of these ++ requests_of those
requests-append [] those = refl
requests-append (exchange ∷ these) those = ap (λ t. exchange.request ∷ t) (requests-append these those)

replies-append : (these those : List Exchange) → responses_of (these ++ those) ≡ responses_of these ++ responses_of those
replies-append [] those = refl
replies-append (exchange ∷ these) those =
    ap (λ t. exchange.interim ++ (exchange.reply ++ t)) (replies-append these those)
    ∙ ap (λ t. exchange.interim ++ t) (sym (append_assoc exchange.reply (responses_of these) (responses_of those)))
    ∙ sym (append_assoc exchange.interim (exchange.reply ++ responses_of these) (responses_of those))

pub exchanges_asked : (history : List Event) → requests_of (exchanges history) ≡ requests_in history
exchanges_asked [] = refl
exchanges_asked (Received bytes ∷ earlier) = exchanges_asked earlier
exchanges_asked (Responded request text ∷ earlier) =
    requests-append (exchanges earlier) (record { request = request; interim = interim earlier; reply = text } ∷ []) ∙ ap (λ t. t ++ request ∷ []) (exchanges_asked earlier)
exchanges_asked (Sent bytes ∷ earlier) = exchanges_asked earlier
exchanges_asked (Continued ∷ earlier) = exchanges_asked earlier
exchanges_asked (Resumed idle ∷ earlier) = exchanges_asked earlier
exchanges_asked (Elapsed millis ∷ earlier) = exchanges_asked earlier

-- the responses, and the interim one that was made since
pub exchanges_responses : (history : List Event) → responses_of (exchanges history) ++ interim history ≡ response_bytes history
exchanges_responses [] = refl
exchanges_responses (Received bytes ∷ earlier) = exchanges_responses earlier
exchanges_responses (Responded request text ∷ earlier) =
    append-nil (responses_of (exchanges (Responded request text ∷ earlier)))
    ∙ replies-append (exchanges earlier) (record { request = request; interim = interim earlier; reply = text } ∷ [])
    ∙ ap (λ t. responses_of (exchanges earlier) ++ (interim earlier ++ t)) (append-nil text)
    ∙ sym (append_assoc (responses_of (exchanges earlier)) (interim earlier) text) ∙ ap (λ t. t ++ text) (exchanges_responses earlier)
exchanges_responses (Sent bytes ∷ earlier) = exchanges_responses earlier
exchanges_responses (Continued ∷ earlier) =
    sym (append_assoc (responses_of (exchanges earlier)) (interim earlier) continue_text) ∙ ap (λ t. t ++ continue_text) (exchanges_responses earlier)
exchanges_responses (Resumed idle ∷ earlier) = exchanges_responses earlier
exchanges_responses (Elapsed millis ∷ earlier) = exchanges_responses earlier

replied-append : (replies : Responses) (these those : List Exchange) → AreRespondedTo replies these → AreRespondedTo replies those → AreRespondedTo replies (these ++ those)
replied-append replies [] those a b = b
replied-append replies (exchange ∷ these) those a b = (a.0, a.1, replied-append replies these those a.2 b)

pub exchanges_replied : (replies : Responses) (history : List Event) → AreInterims history → AreResponses replies history → AreRespondedTo replies (exchanges history)
exchanges_replied replies [] right are = tt
exchanges_replied replies (Received bytes ∷ earlier) right are = exchanges_replied replies earlier right are
exchanges_replied replies (Responded request text ∷ earlier) right are =
    replied-append replies (exchanges earlier) (record { request = request; interim = interim earlier; reply = text } ∷ []) (exchanges_replied replies earlier right.1 are.1)
    (right.0, are.0, tt)
exchanges_replied replies (Sent bytes ∷ earlier) right are = exchanges_replied replies earlier right are
exchanges_replied replies (Continued ∷ earlier) right are = exchanges_replied replies earlier right are
exchanges_replied replies (Resumed idle ∷ earlier) right are = exchanges_replied replies earlier right are
exchanges_replied replies (Elapsed millis ∷ earlier) right are = exchanges_replied replies earlier right are
