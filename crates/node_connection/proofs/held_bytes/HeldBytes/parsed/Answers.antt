use Rattle.std.proofs.Common.{List, ℕ, sym, subst, take, arith, ◌∙◌, ap}
use Rattle.httparse.proofs.GrammarLemmas.{request_unique}
use Rattle.httparse.specs.Spans.{IsRequestWithin, IsRequestAt}
use Rattle.feed_http_heads.specs.Limits.{head_limit}
use Rattle.node_request.specs.Routes.{route_of}
use Rattle.node_connection.proofs.HeldBytes.{front_in, found_up_to, never_covered, whole_covers}
use Rattle.node_connection.proofs.held_bytes.HeldBytes.parsed.Goals as goal

pub new-request-requires : goal.new-request-requires
new-request-requires c =
    subst (λ (t : List ℕ). IsRequestWithin (take head_limit (take c.args.self.now.seen t)) c.args.self.now.headers c.in-Whole.spans) (sym c.deref.ensures.value)
    (front_in c.args.self.now c.in-Whole.spans c.in-Whole.is).within

pub invariant_of-result : goal.invariant_of-result
invariant_of-result c =
    let front = front_in c.args.self.now c.in-Whole.spans c.in-Whole.is in
    let at = subst (λ (t : List ℕ). IsRequestAt (take head_limit (take c.args.self.now.seen t)) c.args.self.now.headers c.in-Whole.spans front.head) (sym c.deref.ensures.value) front.at in
    let has = c.new-request.ensures.head front.head at in
    record {
      within = c.new-request.ensures.within;
      routed = λ head also. c.args.self.now.routed front.head front.begins
          ∙ ap route_of (request_unique c.new-request.result.buffer.now front.head head _ _ has.reads also.reads).0;
    }

pub returns-in-Whole-clause-covers : goal.returns-in-Whole-clause-covers
returns-in-Whole-clause-covers c =
    let front = front_in c.args.self.now c.in-Whole.spans c.in-Whole.is in
    let at = subst (λ (t : List ℕ). IsRequestAt (take head_limit (take c.args.self.now.seen t)) c.args.self.now.headers c.in-Whole.spans front.head) (sym c.deref.ensures.value) front.at in
    let has = c.new-request.ensures.head front.head at in
    whole_covers c.args.self.now c.in-Whole.spans c.new-request.result.spans.len c.in-Whole.is (omega (arith, has.len, front.at.len))

pub returns-in-Whole-clause-found : goal.returns-in-Whole-clause-found
returns-in-Whole-clause-found c = λ size covers.
    let front = front_in c.args.self.now c.in-Whole.spans c.in-Whole.is in
    let at = subst (λ (t : List ℕ). IsRequestAt (take head_limit (take c.args.self.now.seen t)) c.args.self.now.headers c.in-Whole.spans front.head) (sym c.deref.ensures.value) front.at in
    found_up_to c.args.self.now c.in-Whole.spans c.new-request.result size c.in-Whole.is covers (c.new-request.ensures.head front.head at)

pub returns-in_default : goal.returns-in_default
returns-in_default c = record { covers = tt; found = λ size covers. never_covered c.args.self.now size c.in_default.not-Whole covers }
