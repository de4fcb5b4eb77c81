use Rattle.std.proofs.Common.{◌∙◌, ap, sym, length}
use Rattle.std.specs.Prelude.{nat_lt}
use Rattle.node_turns.specs.Flags.{times, has_key}
use Rattle.node_turns.specs.Homes.{is_home}
use Rattle.node_turns.proofs.Homes.{bit}
use Rattle.node_turns.proofs.round_queue.RoundQueue.new.Goals as goal

pub invariant_of-result-clause-homed : goal.invariant_of-result-clause-homed
invariant_of-result-clause-homed c = λ slot key. ap (times key) (c.in_ok-empty_queues.ensures.empty slot) ∙ sym (ap (λ h. bit (is_home slot h)) (c.in_ok-no_homes.ensures.none key))

pub invariant_of-result-clause-ringed : goal.invariant_of-result-clause-ringed
invariant_of-result-clause-ringed c = λ slot. ap (has_key slot) c.in_ok-new.ensures.empty ∙ sym (ap (λ l. nat_lt 0 (length l)) (c.in_ok-empty_queues.ensures.empty slot))

pub invariant_of-result-clause-counted : goal.invariant_of-result-clause-counted
invariant_of-result-clause-counted c = sym c.in_ok-no_homes.ensures.zero
