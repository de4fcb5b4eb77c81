use Rattle.std.proofs.Common.{List, ℕ, sym, subst, take}
use Rattle.std.specs.Prelude.{MatchOption}
use Rattle.node_request.specs.FoundRequests.{HasNoHead, IsFoundIn}
use Rattle.node_connection.proofs.HeldBytes.{none_now}
use Rattle.node_connection.proofs.held_bytes.HeldBytes.front.Goals as goal

pub new-requires : goal.new-requires
new-requires c =
    subst (λ (t : List ℕ). MatchOption c.parsed.result (HasNoHead (take c.args.size t)) (λ one. IsFoundIn (take c.args.size t) one.request)) (sym c.deref.ensures.value)
    (none_now c.parsed.result (take c.args.size c.args.self.now.bytes.items) (c.parsed.ensures.found c.args.size c.requires.found))
