use Rattle.std.proofs.Common.{◌≡◌, ◌≤◌, ◌⊎◌, length, take, arith, refl, sym, ap, subst, ◌∙◌}
use Rattle.std.specs.Prelude.{vec_len}
use Rattle.node_connection.specs.Events.{requests_in}
use Rattle.node_connection.specs.Requests.{IsLastOf}
use Rattle.node_connection.specs.States.{is_idle_in}
use Rattle.node_connection.proofs.States.{knows_more, received_late, received_whole, received_aborted, current_in, lingering_is}
use Rattle.node_connection.proofs.connection.Connection.receive.Goals.{in-Ok, in-Err, then-is_idle, else-is_idle}
use Rattle.node_connection.proofs.connection.Connection.receive.Goals as goal

pub returns-then-is_lingering-clause-state : goal.returns-then-is_lingering-clause-state
returns-then-is_lingering-clause-state c = λ history state. (
  received_late c.args.self.now history c.args.bytes.now (lingering_is c.args.self.now.phase (sym c.is_lingering.ensures ∙ c.if-is_lingering.true)) state.0,
  state.1,
  state.2,
)

pub returns-clause-state : goal.returns-clause-state
returns-clause-state c = λ history state.
    let long : vec_len c.args.self.now.received.bytes ≡ length c.args.self.now.received.bytes.items = (cc) in
    let inside : c.args.self.now.request_len ≤ length c.args.self.now.received.bytes.items = omega (arith, c.args.self.now.inside, long) in
    let current = current_in c.args.self.now.phase c.args.self.now history c.requires.waiting (sym c.is_lingering.ensures ∙ c.if-is_lingering.false) state.0 in (
      elim c.match-append.branch [
        | in-Ok w ↦ received_whole (is_idle_in c.args.self.now.phase) c.args.self.now _ history c.args.bytes.now current w.self-is w.in-Ok.ensures.items refl refl refl
            c.args.self.now.limits.step_some
            (elim c.if-is_idle.branch [
              | then-is_idle v ↦ rw (sym c.is_idle.ensures ∙ v.if-is_idle.true) (ap (λ s. s.1.1.1.1.1.1.1.1.0) v.self-is)
              | else-is_idle v ↦ rw (sym c.is_idle.ensures ∙ v.if-is_idle.false) (ap (λ s. s.1.1.1.1.1.1.1.1.0) v.self-is)
            ])
        | in-Err w ↦ received_aborted (is_idle_in c.args.self.now.phase) c.args.self.now _ history c.args.bytes.now current w.self-is
      ],
      state.1,
      elim c.match-append.branch [
        | in-Ok w ↦ knows_more c.args.self.now.request_len c.args.self.now.received.bytes.items c.append.new.self.bytes.items c.args.bytes.now (requests_in history) inside
            w.in-Ok.ensures.items state.2
        | in-Err w ↦ subst (λ held. (c.args.self.now.request_len ≡ 0) ⊎ IsLastOf (requests_in history) (take c.args.self.now.request_len held)) (sym w.in-Err.ensures.items) state.2
      ],
    )
