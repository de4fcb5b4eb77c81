use Rattle.std.proofs.Common.{◌≡◌, length, rules, sym, ◌∙◌, arith}
use Rattle.std.specs.Prelude.{vec_len}
use Rattle.std.proofs.lemmas.Fn.{filter_same}
use Rattle.node_turns.specs.Flags.{without, HasKey}
use Rattle.node_turns.proofs.Flags.{flagged_below}
use Rattle.node_turns.proofs.Without.{has_from, none_from, without_absent, flagged_without, many_without}
use Rattle.node_turns.proofs.key_queue.KeyQueue.remove.Goals as goal

pub returns-then-not-has-clause-removed : goal.returns-then-not-has-clause-removed
returns-then-not-has-clause-removed c =
    without_absent c.args.key c.args.self.now.keys.items (none_from c.args.key c.args.self.now.keys.items (sym c.has.ensures ∙ c.if-not-has.true))

pub index_mut-requires : goal.index_mut-requires
index_mut-requires c =
    let flags : vec_len c.args.self.now.flags ≡ length c.args.self.now.flags.items = (cc) in
    let has : HasKey c.args.self.now.keys.items c.args.key = has_from c.args.key c.args.self.now.keys.items (sym c.has.ensures ∙ c.if-not-has.false) in
    omega (arith, (flagged_below c.args.self.now.keys.items c.args.self.now.flags.items c.args.key c.args.self.now.flagged has).1, flags)

pub returns-clause-removed : goal.returns-clause-removed
returns-clause-removed c = filter_same _ _ _ (λ x b f' k. search rules) _ _ c.retain.ensures.filtered

pub invariant_of-self-clause-flagged : goal.invariant_of-self-clause-flagged
invariant_of-self-clause-flagged c =
    let has : HasKey c.args.self.now.keys.items c.args.key = has_from c.args.key c.args.self.now.keys.items (sym c.has.ensures ∙ c.if-not-has.false) in
    let below = (flagged_below c.args.self.now.keys.items c.args.self.now.flags.items c.args.key c.args.self.now.flagged has).1 in
    let is : c.retain.new.self.items ≡ without c.args.key c.args.self.now.keys.items = filter_same _ _ _ (λ x b f' k. search rules) _ _ c.retain.ensures.filtered in
    let flagged = flagged_without c.args.self.now.keys.items c.args.self.now.flags.items c.args.key below c.args.self.now.flagged in
    rw is flagged

pub invariant_of-self-clause-as_many : goal.invariant_of-self-clause-as_many
invariant_of-self-clause-as_many c =
    let has : HasKey c.args.self.now.keys.items c.args.key = has_from c.args.key c.args.self.now.keys.items (sym c.has.ensures ∙ c.if-not-has.false) in
    let is : c.retain.new.self.items ≡ without c.args.key c.args.self.now.keys.items = filter_same _ _ _ (λ x b f' k. search rules) _ _ c.retain.ensures.filtered in
    let many = many_without c.args.self.now.keys.items c.args.self.now.flags.items c.args.key has c.args.self.now.flagged c.args.self.now.as_many in
    rw is many
