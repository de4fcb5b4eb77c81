use Rattle.std.proofs.Common.{◌==◌, length, sym, arith, rules}
use Rattle.std.proofs.lemmas.List.Sums.{position_or_len_is}
use Rattle.node_site.proofs.cuts.place_of.Goals as goal

pub returns-then-text-place-clause-value : goal.returns-then-text-place-clause-value
returns-then-text-place-clause-value c =
    sym (position_or_len_is (λ b. b == c.args.byte) c.args.text.now c.loop-place.place 0 (omega arith) c.loop-place.invariant
    (λ _. search (rules, c.if-text-place.true)))

pub returns-clause-value : goal.returns-clause-value
returns-clause-value c =
    sym (position_or_len_is (λ b. b == c.args.byte) c.args.text.now (length c.args.text.now) 0 (omega arith)
    (λ k below. c.loop-place.invariant k (omega arith)) (λ below. absurd (omega arith)))
