use Rattle.std.proofs.Common.{length, sym, arith, rules}
use Rattle.std.proofs.lemmas.List.Sums.{position_or_len_is}
use Rattle.node_site.specs.Urls.{ends_authority}
use Rattle.node_site.proofs.urls.authority_len.Goals as goal

pub returns-then-ends_authority-clause-value : goal.returns-then-ends_authority-clause-value
returns-then-ends_authority-clause-value c =
    sym (position_or_len_is ends_authority c.args.text.now c.loop-place.place 0 (omega arith) c.loop-place.invariant
    (λ _. search (rules, c.if-ends_authority.true)))

pub returns-clause-value : goal.returns-clause-value
returns-clause-value c =
    sym (position_or_len_is ends_authority c.args.text.now (length c.args.text.now) 0 (omega arith)
    (λ k below. c.loop-place.invariant k (omega arith)) (λ below. absurd (omega arith)))
