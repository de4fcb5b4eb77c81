use Rattle.std.proofs.Common.{rules, ◌≡◌, ◌≤◌, List, ℕ, take, length, sym, subst, is_ok}
use Rattle.httparse.specs.Grammar.{RequestHead}
use Rattle.feed_http_heads.specs.HeadEnds.{IsHeadFound}
use Rattle.feed_http_heads.specs.Limits.{head_limit, field_limit}
use Rattle.node_request.specs.FoundRequests.{BeginsWith}
use Rattle.node_request.specs.Routes.{route_of}
use Rattle.node_connection.proofs.HeldBytes.{appended}
use Rattle.node_connection.proofs.held_bytes.HeldBytes.append.Goals as goal

pub invariant_of-self : goal.invariant_of-self
invariant_of-self c =
    let held = c.args.self.now in
    let le : held.seen ≤ length held.bytes.items = search rules in
    let same : take held.seen c.extend_from_slice.new.self.items ≡ take held.seen held.bytes.items =
    appended (is_ok c.extend_from_slice.result) held.seen held.bytes.items c.args.more.now c.extend_from_slice.new.self.items le c.extend_from_slice.ensures.items in
    record {
      within = search rules;
      known = subst (λ (t : List ℕ). ∥ IsHeadFound head_limit field_limit t held.headers held.found ∥₁) (sym same) held.known;
      routed = subst (λ (t : List ℕ). (head : RequestHead) → BeginsWith t head → held.route ≡ route_of head) (sym same) held.routed;
    }
