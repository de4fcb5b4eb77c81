use Rattle.std.proofs.Common.{◌≤◌, leb, length, ltb, rules}
use Rattle.std.proofs.lemmas.List.Sorted.{IsPartitionPoint-from_clause, IsPartitionedBy-leb, IsPartitionedBy-ltb}
use Rattle.feed_kbart.proofs.Columns.{Ends, Starts, in_order, part_beside}
use Rattle.feed_kbart.proofs.index.Index.places_beside.Goals as goal
use Rattle.feed_kbart.proofs.index.Index.places_beside.Goals.{After-deref-3}

starts : (c : After-deref-3) → Starts c.args.number c.args.self.now.numbers.items c.partition_point-first.result
starts c =
    let up = rw (← c.deref.ensures.value) at c.requires.ascending in
    rw c.deref.ensures.value at (IsPartitionPoint-from_clause (λ m. ltb m c.args.number) _ _ c.partition_point-first.ensures.partitioned
    (IsPartitionedBy-ltb (λ m. m) _ c.args.number up) (λ a r q k. search rules))

ends : (c : After-deref-3) → Ends c.args.number c.args.self.now.numbers.items c.partition_point-end.result
ends c =
    let up = rw (← c.deref-2.ensures.value) at c.requires.ascending in
    rw c.deref-2.ensures.value at (IsPartitionPoint-from_clause (λ m. leb m c.args.number) _ _ c.partition_point-end.ensures.partitioned
    (IsPartitionedBy-leb (λ m. m) _ c.args.number up) (λ a r q k. search rules))

first_within : (c : After-deref-3) → c.partition_point-first.result ≤ length c.args.self.now.numbers.items
first_within c = rw c.deref.ensures.value at c.partition_point-first.ensures.bound

end_within : (c : After-deref-3) → c.partition_point-end.result ≤ length c.args.self.now.numbers.items
end_within c = rw c.deref-2.ensures.value at c.partition_point-end.ensures.bound

ordered : (c : After-deref-3) → c.partition_point-first.result ≤ c.partition_point-end.result
ordered c = in_order c.args.number c.args.self.now.numbers.items _ _ (first_within c) (starts c) (ends c)

pub slice_bounds-result-start : goal.slice_bounds-result-start
slice_bounds-result-start c = ordered c

pub slice_bounds-result-count : goal.slice_bounds-result-count
slice_bounds-result-count c = ordered c

pub returns : goal.returns
returns c =
    rw c.deref-3.ensures.value
    (part_beside c.args.number c.args.self.now.numbers.items c.args.self.now.places.items _ _ c.requires.even (first_within c.before) (end_within c.before) (starts c.before) (ends c.before))
