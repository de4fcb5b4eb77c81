use Rattle.std.proofs.Common.{◌≡◌, ◌∷◌, [], length, sym, subst, ap, ◌∙◌, arith}
use Rattle.std.specs.Prelude.{vec_len}
use Rattle.node_turns.specs.Flags.{times, HasKey}
use Rattle.node_turns.proofs.Flags.{flagged_below, flagged_removed, has_here, many_removed, times_both}
use Rattle.node_turns.proofs.key_queue.KeyQueue.take.Goals as goal

pub index_mut-requires : goal.index_mut-requires
index_mut-requires c =
    let flags : vec_len c.args.self.now.flags ≡ length c.args.self.now.flags.items = (cc) in
    let has : HasKey c.args.self.now.keys.items c.in_ok-key.key =
    subst (λ keys. HasKey keys c.in_ok-key.key) (sym c.in_ok-key.ensures.items) (has_here c.pop_front.new.self.items c.in_ok-key.key) in
    omega (arith, (flagged_below c.args.self.now.keys.items c.args.self.now.flags.items c.in_ok-key.key c.args.self.now.flagged has).1, flags)

pub invariant_of-self-2-clause-flagged : goal.invariant_of-self-2-clause-flagged
invariant_of-self-2-clause-flagged c =
    flagged_removed c.args.self.now.keys.items c.pop_front.new.self.items c.args.self.now.flags.items c.in_ok-key.key
    (λ other. ap (times other) c.in_ok-key.ensures.items ∙ times_both other (c.in_ok-key.key ∷ []) c.pop_front.new.self.items) c.args.self.now.flagged

pub invariant_of-self-2-clause-as_many : goal.invariant_of-self-2-clause-as_many
invariant_of-self-2-clause-as_many c =
    let has : HasKey c.args.self.now.keys.items c.in_ok-key.key =
    subst (λ keys. HasKey keys c.in_ok-key.key) (sym c.in_ok-key.ensures.items) (has_here c.pop_front.new.self.items c.in_ok-key.key) in
    let below = flagged_below c.args.self.now.keys.items c.args.self.now.flags.items c.in_ok-key.key c.args.self.now.flagged has in
    many_removed c.args.self.now.keys.items c.pop_front.new.self.items c.args.self.now.flags.items c.in_ok-key.key
    (omega (arith, ap length c.in_ok-key.ensures.items)) below.0 below.1 c.args.self.now.as_many
