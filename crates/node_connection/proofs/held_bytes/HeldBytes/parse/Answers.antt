use Rattle.std.proofs.Common.{rules, length, take, subst, sym, ap, ◌∙◌, ◌≡◌}
use Rattle.httparse.specs.Spans.{IsRequestAt}
use Rattle.feed_http_heads.specs.HeadEnds.{IsHeadInFront, IsHeadFound}
use Rattle.feed_http_heads.specs.Limits.{head_limit}
use Rattle.feed_http_heads.specs.Requests.{HasHead}
use Rattle.feed_http_heads.specs.declared.head_ends.HeadFound.{HeadFound}
use Rattle.feed_http_heads.specs.declared.request.Request.{Request}
use Rattle.node_connection.proofs.HeldBytes.{known_all, route_found, never_routed}
use Rattle.node_connection.proofs.held_bytes.HeldBytes.parse.Goals as goal

pub invariant_of-self : goal.invariant_of-self
invariant_of-self c =
    let bytes = c.args.self.now.bytes.items in
    let headers = c.find_head-self.new.headers in
    let room = length c.args.self.now.headers in
    let all : room ≡ 64 = search rules in
    let long : c.len-self.result ≡ length bytes = c.len-self.ensures ∙ sym c.deref.ensures.len ∙ ap length c.deref.ensures.value in
    let front : IsHeadInFront head_limit room bytes headers c.in-Whole.spans =
    subst (λ t. IsHeadInFront head_limit room t headers c.in-Whole.spans) c.deref.ensures.value
    (subst (λ (f : HeadFound). IsHeadFound head_limit room c.deref.result.now headers f) c.in-Whole.is c.find_head-self.ensures) in
    let at = subst (λ t. IsRequestAt (take head_limit t) headers c.in-Whole.spans front.head) (sym c.deref-in-Whole.ensures.value) front.at in
    record {
      within = search rules;
      known = known_all bytes c.deref.result.now c.len-self.result room headers c.find_head-self.result c.deref.ensures.value long all c.find_head-self.ensures;
      routed = route_found bytes c.len-self.result room headers c.in-Whole.spans c.new.result long front
          (subst (λ (r : Request). HasHead r front.head) (sym c.new.ensures) (c.new-request.ensures.head front.head at));
    }

pub invariant_of-self-in-Never : goal.invariant_of-self-in-Never
invariant_of-self-in-Never c =
    let bytes = c.args.self.now.bytes.items in
    let headers = c.find_head-self.new.headers in
    let room = length c.args.self.now.headers in
    let all : room ≡ 64 = search rules in
    let long : c.len-self.result ≡ length bytes = c.len-self.ensures ∙ sym c.deref.ensures.len ∙ ap length c.deref.ensures.value in
    let known = known_all bytes c.deref.result.now c.len-self.result room headers c.find_head-self.result c.deref.ensures.value long all c.find_head-self.ensures in
    record {
      within = search rules;
      known = known;
      routed = never_routed (take c.len-self.result bytes) headers c.find_head-self.result c.args.self.now.route known c.in-Never.is;
    }
