use Rattle.std.proofs.Common.{arith, refl, sym, ap, ◌∙◌}
use Rattle.node_connection.proofs.Phases.{after_lingers, pending_lingers}
use Rattle.node_connection.proofs.States.{sent_part, sent_whole, counted_sent, counted_anew, counted_on}
use Rattle.node_connection.proofs.connection.Connection.mark_sent.Goals.{then-count-self, else-count-self}
use Rattle.node_connection.proofs.connection.Connection.mark_sent.Goals as goal

pub returns-then-count-len-clause-state : goal.returns-then-count-len-clause-state
returns-then-count-len-clause-state c = λ history state. (
  sent_whole c.args.self.now.phase c.args.self.now _ history c.args.count c.requires.some c.requires.within
      (record { received = refl; request_len = refl; after = refl; continued = refl; limits = refl })
      (elim c.if-count-self.branch [
        | then-count-self w ↦
            counted_anew c.args.count c.args.self.now _ w.if-count-self.true (ap (λ s. s.1.1.1.1.1.1.1.0) w.self-is) (ap (λ s. s.1.1.1.1.1.1.1.1.0) w.self-is)
        | else-count-self w ↦
            counted_on c.args.count c.args.self.now _ (omega (arith, w.if-count-self.false)) (ap (λ s. s.1.1.1.1.1.1.1.0) w.self-is) (ap (λ s. s.1.1.1.1.1.1.1.1.0) w.self-is)
      ])
      (omega (arith, c.if-count-len.true, c.len.ensures)) c.new.ensures.items c.phase_after-self.ensures state.0,
  counted_sent c.args.self.now.phase c.args.self.now history c.args.count c.requires.some c.requires.within state.0,
  state.2,
)

pub returns-else-count-len-clause-state : goal.returns-else-count-len-clause-state
returns-else-count-len-clause-state c = λ history state. (
  sent_part c.args.self.now.phase c.args.self.now _ history c.args.count c.requires.some c.requires.within
      (record { received = refl; request_len = refl; after = refl; continued = refl; limits = refl }) refl refl
      (elim c.if-count-self.branch [
        | then-count-self w ↦
            counted_anew c.args.count c.args.self.now _ w.if-count-self.true (ap (λ s. s.1.1.1.1.1.1.1.0) w.self-is) (ap (λ s. s.1.1.1.1.1.1.1.1.0) w.self-is)
        | else-count-self w ↦
            counted_on c.args.count c.args.self.now _ (omega (arith, w.if-count-self.false)) (ap (λ s. s.1.1.1.1.1.1.1.0) w.self-is) (ap (λ s. s.1.1.1.1.1.1.1.1.0) w.self-is)
      ])
      (λ e. absurd (omega (arith, c.if-count-len.false, c.len.ensures, e))) state.0,
  counted_sent c.args.self.now.phase c.args.self.now history c.args.count c.requires.some c.requires.within state.0,
  state.2,
)

pub returns-then-count-len-clause-lingers : goal.returns-then-count-len-clause-lingers
returns-then-count-len-clause-lingers c = λ same. after_lingers c.args.self.now.after (sym c.phase_after-self.ensures ∙ same)

pub returns-else-count-len-clause-lingers : goal.returns-else-count-len-clause-lingers
returns-else-count-len-clause-lingers c = pending_lingers c.args.self.now.phase c.args.self.now c.args.count c.requires.some c.requires.within
