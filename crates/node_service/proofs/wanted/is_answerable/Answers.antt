use Rattle.std.proofs.Common.{inl}
use Rattle.node_service.proofs.Turns.{answered_by}
use Rattle.node_service.proofs.wanted.is_answerable.Goals as goal

pub returns-then-branch : goal.returns-then-branch
returns-then-branch g c = λ h is. inl ((rw c.if-branch.true at c.in_ok-has_each.ensures) h is)

pub returns : goal.returns
returns g c = λ h is.
    answered_by c.args.wanted.now h c.args.received.now.bytes.now c.asks_for_fetch.result ((rw c.if-branch.false at c.in_ok-has_each.ensures) h is) c.asks_for_fetch.ensures
