use Rattle.std.proofs.Common.{◌++◌, ◌∙◌, ap, sym, arith, inl, inr, append-nil}
use Rattle.node_turns.proofs.Homes.{again_some, again_none}
use Rattle.node_turns.proofs.round_queue.rejoin.Goals as goal

pub returns-then-len-gt0-clause-ring : goal.returns-then-len-gt0-clause-ring
returns-then-len-gt0-clause-ring c = elim c.add.ensures.added [
  | inl there ↦ absurd (omega (arith, there.0, c.requires.absent))
  | inr is ↦ is.1 ∙ ap (λ l. c.args.ring.now.keys.items ++ l) (sym (again_some c.args.slot c.args.len (omega (arith, c.if-len-gt0.true))))
]

pub returns-else-len-gt0-clause-ring : goal.returns-else-len-gt0-clause-ring
returns-else-len-gt0-clause-ring c =
    sym (append-nil c.args.ring.now.keys.items) ∙ ap (λ l. c.args.ring.now.keys.items ++ l) (sym (again_none c.args.slot c.args.len (omega (arith, c.if-len-gt0.false))))
