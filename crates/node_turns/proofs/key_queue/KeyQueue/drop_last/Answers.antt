use Rattle.std.proofs.Common.{◌≡◌, ◌∷◌, ◌++◌, [], ℕ, Some, length, option_to_list, refl, sym, subst, ap, ◌∙◌, arith}
use Rattle.std.proofs.lemmas.List.{length_push}
use Rattle.std.specs.Prelude.{vec_len}
use Rattle.node_turns.specs.Flags.{times, HasKey}
use Rattle.node_turns.proofs.Flags.{flagged_below, flagged_removed, has_last, many_removed, times_both}
use Rattle.node_turns.proofs.key_queue.KeyQueue.drop_last.Goals as goal

split : (c : goal.After-index_mut-arg-1) → c.args.self.now.keys.items ≡ c.pop_back.new.self.items ++ c.args.key ∷ []
split c =
    c.pop_back.ensures.items
    ∙ ap (λ slot. c.pop_back.new.self.items ++ option_to_list slot)
    (c.pop_back.ensures.value c.in-Some.last.now (c.in-Some.ensures.variant.0 refl) ∙ ap (λ (key : ℕ). Some key) (sym c.in-Some.ensures.lookup ∙ c.if-last-key.false))

has : (c : goal.After-index_mut-arg-1) → HasKey c.args.self.now.keys.items c.args.key
has c = subst (λ keys. HasKey keys c.args.key) (sym (split c)) (has_last c.pop_back.new.self.items c.args.key)

pub index_mut-requires : goal.index_mut-requires
index_mut-requires c =
    let flags : vec_len c.args.self.now.flags ≡ length c.args.self.now.flags.items = (cc) in
    omega (arith, (flagged_below c.args.self.now.keys.items c.args.self.now.flags.items c.args.key c.args.self.now.flagged (has c)).1, flags)

pub invariant_of-self-clause-flagged : goal.invariant_of-self-clause-flagged
invariant_of-self-clause-flagged c =
    let is : c.args.self.now.keys.items ≡ c.pop_back.new.self.items ++ c.args.key ∷ [] =
    c.pop_back.ensures.items
    ∙ ap (λ slot. c.pop_back.new.self.items ++ option_to_list slot)
    (c.pop_back.ensures.value c.in-Some.last.now (c.in-Some.ensures.variant.0 refl) ∙ ap (λ (key : ℕ). Some key) (sym c.in-Some.ensures.lookup ∙ c.if-last-key.false)) in
    flagged_removed c.args.self.now.keys.items c.pop_back.new.self.items c.args.self.now.flags.items c.args.key
    (λ other. omega (arith, ap (times other) is, times_both other c.pop_back.new.self.items (c.args.key ∷ []))) c.args.self.now.flagged

pub invariant_of-self-clause-as_many : goal.invariant_of-self-clause-as_many
invariant_of-self-clause-as_many c =
    let is : c.args.self.now.keys.items ≡ c.pop_back.new.self.items ++ c.args.key ∷ [] =
    c.pop_back.ensures.items
    ∙ ap (λ slot. c.pop_back.new.self.items ++ option_to_list slot)
    (c.pop_back.ensures.value c.in-Some.last.now (c.in-Some.ensures.variant.0 refl) ∙ ap (λ (key : ℕ). Some key) (sym c.in-Some.ensures.lookup ∙ c.if-last-key.false)) in
    let below = flagged_below c.args.self.now.keys.items c.args.self.now.flags.items c.args.key c.args.self.now.flagged
    (subst (λ keys. HasKey keys c.args.key) (sym is) (has_last c.pop_back.new.self.items c.args.key)) in
    many_removed c.args.self.now.keys.items c.pop_back.new.self.items c.args.self.now.flags.items c.args.key
    (omega (arith, ap length is, length_push c.pop_back.new.self.items c.args.key)) below.0 below.1 c.args.self.now.as_many
