use Rattle.std.proofs.Common.{sym, ◌∙◌, rules}
use Rattle.std.proofs.lemmas.List.Sorted.{list_any-IsPermutation}
use Rattle.feed_model.specs.Change.{is_earlier}
use Rattle.feed_keep.proofs.Later.{all_retires, order_of_days}
use Rattle.feed_keep.proofs.retired.active_names.Goals as goal

pub returns-clause-order : goal.returns-clause-order
returns-clause-order c = order_of_days _ c.sort_unstable_by.ensures.sorted (λ a o f k. search rules)

pub returns-clause-later : goal.returns-clause-later
returns-clause-later c n =
    sym (list_any-IsPermutation (λ m. is_earlier n m.now) c.loop-record.actives.items c.sort_unstable_by.new.self.items c.sort_unstable_by.ensures.permutation) ∙ c.loop-record.invariant n
    ∙ all_retires n c.args.records.now c.loop-record.record-index c.loop-record-test.false
