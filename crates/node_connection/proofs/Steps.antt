-- The bytes of two consecutive steps, taken together.
use Rattle.std.proofs.Common.{◌≡◌, ◌≤◌, ◌+◌, ◌⊎◌, ℕ, Bool, true, false, List, [], ◌∷◌, ◌++◌, length, Option, Some, None, refl, sym, ap, ◌∙◌}
use Rattle.std.proofs.Common.{append_assoc, append-nil, length-append, arith, subst, inl, inr}
use Rattle.std.specs.Io.KnownBytes.{Consumes, Appends}
use Rattle.node_connection.specs.declared.connection.Connection.{Connection}
use Rattle.node_connection.specs.declared.streams.Share.{Share}
use Rattle.node_connection.specs.Requests.{Request}
use Rattle.node_connection.specs.Events.{Event, Received, Responded, Sent, Continued, Resumed, Elapsed, received_bytes, requests_in, sent_bytes}
use Rattle.node_connection.specs.Responses.{Responses, LacksResponse}
use Rattle.node_connection.specs.States.{HasState, HasParsed, HasWaited}
use Rattle.node_connection.specs.Streams.{AreResponses, HasAdvanced, HasRead, HasWritten}

consumes_none : (old : Option (List ℕ)) → Consumes old old []
consumes_none None = tt
consumes_none (Some xs) = refl

consumes_more : (old mid new : Option (List ℕ)) (bs cs : List ℕ) → Consumes old mid bs → Consumes mid new cs → Consumes old new (bs ++ cs)
consumes_more None mid new bs cs a b = tt
consumes_more (Some xs) None new bs cs a b = absurd a
consumes_more (Some xs) (Some ys) None bs cs a b = b
consumes_more (Some xs) (Some ys) (Some zs) bs cs a b = a ∙ rw b (sym (append_assoc bs cs zs))

appends_none : (old : Option (List ℕ)) → Appends old old []
appends_none None = tt
appends_none (Some xs) = sym (append-nil xs)

appends_more : (old mid new : Option (List ℕ)) (bs cs : List ℕ) → Appends old mid bs → Appends mid new cs → Appends old new (bs ++ cs)
appends_more None mid new bs cs a b = tt
appends_more (Some xs) None new bs cs a b = absurd a
appends_more (Some xs) (Some ys) None bs cs a b = absurd b
appends_more (Some xs) (Some ys) (Some zs) bs cs a b = b ∙ rw a (append_assoc xs bs cs)

received_bytes-append : (later earlier : List Event) → received_bytes (later ++ earlier) ≡ received_bytes earlier ++ received_bytes later
received_bytes-append [] earlier = sym (append-nil (received_bytes earlier))
received_bytes-append (Received bytes ∷ later) earlier = ap (λ t. t ++ bytes) (received_bytes-append later earlier) ∙ append_assoc (received_bytes earlier) (received_bytes later) bytes
received_bytes-append (Responded request reply ∷ later) earlier = received_bytes-append later earlier
received_bytes-append (Sent bytes ∷ later) earlier = received_bytes-append later earlier
received_bytes-append (Continued ∷ later) earlier = received_bytes-append later earlier
received_bytes-append (Resumed idle ∷ later) earlier = received_bytes-append later earlier
received_bytes-append (Elapsed millis ∷ later) earlier = received_bytes-append later earlier

sent_bytes-append : (later earlier : List Event) → sent_bytes (later ++ earlier) ≡ sent_bytes earlier ++ sent_bytes later
sent_bytes-append [] earlier = sym (append-nil (sent_bytes earlier))
sent_bytes-append (Received bytes ∷ later) earlier = sent_bytes-append later earlier
sent_bytes-append (Responded request reply ∷ later) earlier = sent_bytes-append later earlier
sent_bytes-append (Sent bytes ∷ later) earlier = ap (λ t. t ++ bytes) (sent_bytes-append later earlier) ∙ append_assoc (sent_bytes earlier) (sent_bytes later) bytes
sent_bytes-append (Continued ∷ later) earlier = sent_bytes-append later earlier
sent_bytes-append (Resumed idle ∷ later) earlier = sent_bytes-append later earlier
sent_bytes-append (Elapsed millis ∷ later) earlier = sent_bytes-append later earlier

requests-append : (later earlier : List Event) → requests_in (later ++ earlier) ≡ requests_in earlier ++ requests_in later
requests-append [] earlier = sym (append-nil (requests_in earlier))
requests-append (Received bytes ∷ later) earlier = requests-append later earlier
requests-append (Responded request reply ∷ later) earlier =
    ap (λ t. t ++ request ∷ []) (requests-append later earlier) ∙ append_assoc (requests_in earlier) (requests_in later) (request ∷ [])
requests-append (Sent bytes ∷ later) earlier = requests-append later earlier
requests-append (Continued ∷ later) earlier = requests-append later earlier
requests-append (Resumed idle ∷ later) earlier = requests-append later earlier
requests-append (Elapsed millis ∷ later) earlier = requests-append later earlier

nil≢snoc : (xs : List Request) (x : Request) → xs ++ x ∷ [] ≡ [] → ⊥
nil≢snoc [] x is = absurd (cc)
nil≢snoc (y ∷ xs) x is = absurd (cc)

-- if no response was made, every response is right
no_responses : (replies : Responses) (more : List Event) → requests_in more ≡ [] → AreResponses replies more
no_responses replies [] none = tt
no_responses replies (Received bytes ∷ more) none = no_responses replies more none
no_responses replies (Responded request reply ∷ more) none = absurd (nil≢snoc (requests_in more) request none)
no_responses replies (Sent bytes ∷ more) none = no_responses replies more none
no_responses replies (Continued ∷ more) none = no_responses replies more none
no_responses replies (Resumed idle ∷ more) none = no_responses replies more none
no_responses replies (Elapsed millis ∷ more) none = no_responses replies more none

replies-append : (replies : Responses) (later earlier : List Event) → AreResponses replies later → AreResponses replies earlier → AreResponses replies (later ++ earlier)
replies-append replies [] earlier these those = those
replies-append replies (Received bytes ∷ later) earlier these those = replies-append replies later earlier these those
replies-append replies (Responded request reply ∷ later) earlier these those = (these.0, replies-append replies later earlier these.1 those)
replies-append replies (Sent bytes ∷ later) earlier these those = replies-append replies later earlier these those
replies-append replies (Continued ∷ later) earlier these those = replies-append replies later earlier these those
replies-append replies (Resumed idle ∷ later) earlier these those = replies-append replies later earlier these those
replies-append replies (Elapsed millis ∷ later) earlier these those = replies-append replies later earlier these those

counted_none : (left share : ℕ) → left ≡ share → 0 + left ≡ share
counted_none left share same = omega (arith, same)

covered_none : (left share : ℕ) → left ≡ share → 0 + left ≤ share
covered_none left share same = omega (arith, same)

counted_one : (left share : ℕ) → left + 1 ≡ share → 1 + left ≡ share
counted_one left share less = omega (arith, less)

covered_one : (left share : ℕ) → left + 1 ≡ share → 1 + left ≤ share
covered_one left share less = omega (arith, less)

-- the responses of two steps are counted, if those of each step are
counted_both : (replies : Responses) (made more_made share middle left : ℕ) → (made + middle ≡ share) ⊎ LacksResponse replies → (more_made + left ≡ middle) ⊎ LacksResponse replies
    → ((made + more_made) + left ≡ share) ⊎ LacksResponse replies
counted_both replies made more_made share middle left (inl first) (inl second) = inl (omega (arith, first, second))
counted_both replies made more_made share middle left (inl first) (inr lacks) = inr lacks
counted_both replies made more_made share middle left (inr lacks) second = inr lacks

pub nothing : (replies : Responses) (share : Share) (connection : Connection) (history : List Event) (r w : Option (List ℕ)) → HasState connection history
    → HasAdvanced replies share share connection history r r w w
nothing replies share connection history r w state = record {
  more = [];
  state = state;
  replies_made = tt;
  bytes_received = consumes_none r;
  bytes_sent = appends_none w;
  bytes_counted = counted_none share.bytes share.bytes refl;
  replies_covered = covered_none share.responses share.responses refl;
  replies_counted = inl (counted_none share.responses share.responses refl);
}

pub after_read : (replies : Responses) (share left : Share) (new : Connection) (history : List Event) (r0 r1 w : Option (List ℕ)) → HasRead share left new history r0 r1
    → HasAdvanced replies share left new history r0 r1 w w
after_read replies share left new history r0 r1 w has = record {
  more = has.more;
  state = has.state;
  replies_made = no_responses replies has.more has.no_reply_made;
  bytes_received = has.bytes_received;
  bytes_sent = subst (Appends w w) (sym has.none_sent) (appends_none w);
  bytes_counted = has.bytes_counted;
  replies_covered = rw has.no_reply_made (covered_none left.responses share.responses has.replies_kept);
  replies_counted = inl (rw has.no_reply_made (counted_none left.responses share.responses has.replies_kept));
}

pub after_write : (replies : Responses) (share : Share) (new : Connection) (history : List Event) (r w0 w1 : Option (List ℕ)) → HasWritten new history w0 w1
    → HasAdvanced replies share share new history r r w0 w1
after_write replies share new history r w0 w1 has = record {
  more = has.more;
  state = has.state;
  replies_made = no_responses replies has.more has.no_reply_made;
  bytes_received = subst (Consumes r r) (sym has.none_received) (consumes_none r);
  bytes_sent = has.bytes_sent;
  bytes_counted = rw has.none_received (counted_none share.bytes share.bytes refl);
  replies_covered = rw has.no_reply_made (covered_none share.responses share.responses refl);
  replies_counted = inl (rw has.no_reply_made (counted_none share.responses share.responses refl));
}

-- the bytes held were parsed, and a response may have been made
pub after_parse : (replies : Responses) (share left : Share) (complete : Bool) (new : Connection) (history : List Event) (r w : Option (List ℕ))
    → left.bytes ≡ share.bytes → (complete ≡ false → left.responses ≡ share.responses) → (complete ≡ true → left.responses + 1 ≡ share.responses)
    → HasParsed replies complete new history → HasAdvanced replies share left new history r r w w
after_parse replies share left false new history r w bytes same less waited = by waited
  where
    without : (more : List Event) → received_bytes more ≡ [] → sent_bytes more ≡ [] → requests_in more ≡ [] → HasState new (more ++ history)
        → HasAdvanced replies share left new history r r w w
    without more no_bytes none_sent none state = record {
      more = more;
      state = state;
      replies_made = no_responses replies more none;
      bytes_received = subst (Consumes r r) (sym no_bytes) (consumes_none r);
      bytes_sent = subst (Appends w w) (sym none_sent) (appends_none w);
      bytes_counted = rw no_bytes (counted_none left.bytes share.bytes bytes);
      replies_covered = rw none (covered_none left.responses share.responses (same refl));
      replies_counted = inl (rw none (counted_none left.responses share.responses (same refl)));
    }

    by : HasWaited new history → HasAdvanced replies share left new history r r w w
    by (inl (phase, state)) = without [] refl refl refl state
    by (inr (inl state)) = without (Continued ∷ []) refl refl refl state
    by (inr (inr (phase, state))) = without [] refl refl refl state
after_parse replies share left true new history r w bytes same less (inl (request, reply, is, state)) = record {
  more = Responded request reply ∷ [];
  state = state;
  replies_made = (is, tt);
  bytes_received = consumes_none r;
  bytes_sent = appends_none w;
  bytes_counted = counted_none left.bytes share.bytes bytes;
  replies_covered = covered_one left.responses share.responses (less refl);
  replies_counted = inl (counted_one left.responses share.responses (less refl));
}
after_parse replies share left true new history r w bytes same less (inr (text, body, none, phase, state)) = record {
  more = [];
  state = state;
  replies_made = tt;
  bytes_received = consumes_none r;
  bytes_sent = appends_none w;
  bytes_counted = counted_none left.bytes share.bytes bytes;
  replies_covered = omega (arith, covered_one left.responses share.responses (less refl));
  replies_counted = inr (text, body, none);
}

pub further : (replies : Responses) (share mid_share left : Share) (mid new : Connection) (history : List Event) (r0 r1 r2 w0 w1 w2 : Option (List ℕ))
    → (before : HasAdvanced replies share mid_share mid history r0 r1 w0 w1) → HasAdvanced replies mid_share left new (before.more ++ history) r1 r2 w1 w2
    → HasAdvanced replies share left new history r0 r2 w0 w2
further replies share mid_share left mid new history r0 r1 r2 w0 w1 w2 before after = record {
  more = after.more ++ before.more;
  state = subst (HasState new) (sym (append_assoc after.more before.more history)) after.state;
  replies_made = replies-append replies after.more before.more after.replies_made before.replies_made;
  bytes_received = subst (Consumes r0 r2) (sym (received_bytes-append after.more before.more)) (consumes_more r0 r1 r2 _ _ before.bytes_received after.bytes_received);
  bytes_sent = subst (Appends w0 w2) (sym (sent_bytes-append after.more before.more)) (appends_more w0 w1 w2 _ _ before.bytes_sent after.bytes_sent);
  bytes_counted = rw (received_bytes-append after.more before.more, length-append (received_bytes before.more) (received_bytes after.more))
      (omega (arith, before.bytes_counted, after.bytes_counted));
  replies_covered = rw (requests-append after.more before.more, length-append (requests_in before.more) (requests_in after.more))
      (omega (arith, before.replies_covered, after.replies_covered));
  replies_counted = rw (requests-append after.more before.more, length-append (requests_in before.more) (requests_in after.more))
      (counted_both replies (length (requests_in before.more)) (length (requests_in after.more)) share.responses mid_share.responses left.responses
      before.replies_counted after.replies_counted);
}

-- bytes of a single read
pub read_some : (share left : Share) (new : Connection) (history : List Event) (bytes : List ℕ) (r0 r1 : Option (List ℕ)) → Consumes r0 r1 bytes
    → HasState new (Received bytes ∷ history) → length bytes + left.bytes ≡ share.bytes → left.responses ≡ share.responses → HasRead share left new history r0 r1
read_some share left new history bytes r0 r1 received state counted kept = record {
  more = Received bytes ∷ [];
  state = state;
  no_reply_made = refl;
  bytes_received = received;
  none_sent = refl;
  bytes_counted = counted;
  replies_kept = kept;
}
