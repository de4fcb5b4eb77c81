use Rattle.std.proofs.Common.{refl, sym, ◌∙◌, true, false, rules, inl}
use Rattle.node_connection.proofs.States.{resumed}
use Rattle.node_connection.proofs.connection.Connection.resume.Goals.{then-is_empty, else-is_empty}
use Rattle.node_connection.proofs.connection.Connection.resume.Goals as goal

pub returns-clause-state : goal.returns-clause-state
returns-clause-state c = λ history state. (
  elim c.if-is_empty.branch [
    | then-is_empty w ↦ resumed c.args.self.now _ history c.requires state.0 (search rules) refl refl refl c.args.self.now.limits.step_some c.args.self.now.limits.idle_some
        true (sym w.if-is_empty.true ∙ c.is_empty.ensures) w.self-is
    | else-is_empty w ↦ resumed c.args.self.now _ history c.requires state.0 (search rules) refl refl refl c.args.self.now.limits.step_some c.args.self.now.limits.idle_some
        false (sym w.if-is_empty.false ∙ c.is_empty.ensures) w.self-is
  ],
  refl,
  inl refl,
)
