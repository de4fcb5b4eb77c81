use Rattle.std.proofs.Common.{◌≡◌, ◌-◌, ◌∙◌, leb, ltb, true, false, length, drop, take, subst, arith, rules}
use Rattle.std.specs.List.Sorted.{IsPartitionPoint}
use Rattle.std.proofs.lemmas.List.{take_rest}
use Rattle.std.proofs.lemmas.List.Sorted.{IsPartitionPoint-from_clause, IsPartitionedBy-leb, IsPartitionedBy-ltb}
use Rattle.feed_parts.specs.Segments.{last_place}
use Rattle.feed_parts.proofs.Order.{code_end, ends_rise, starts_rise, rest_order, rest_bytes, front_order, front_starts, front_bytes}
use Rattle.feed_parts.proofs.overlap.meeting.Goals as goal
use Rattle.feed_parts.proofs.overlap.meeting.Goals.{After-partition_point-from, After-partition_point-to}

split_from : (c : After-partition_point-from) → IsPartitionPoint (λ p. leb (code_end p) c.args.first ≡ true)
    (λ p. leb (code_end p) c.args.first ≡ false) c.args.parts.now c.partition_point-from.result
split_from c = IsPartitionPoint-from_clause (λ p. leb (code_end p) c.args.first) c.args.parts.now c.partition_point-from.result c.partition_point-from.ensures.partitioned
    (IsPartitionedBy-leb code_end c.args.parts.now c.args.first (ends_rise 0 c.args.parts.now c.requires.order.parts))
    (λ a r q k. search rules)

split_to : (c : After-partition_point-to)
    → IsPartitionPoint (λ p. ltb p.first c.args.end ≡ true) (λ p. ltb p.first c.args.end ≡ false) (drop c.partition_point-from.result c.args.parts.now) c.partition_point-to.result
split_to c =
    let rest = drop c.partition_point-from.result c.args.parts.now in
    let same = take_rest c.args.parts.now c.partition_point-from.result in
    let order = rest_order last_place c.args.first c.args.end c.args.parts.now c.requires.order (omega arith) c.partition_point-from.result in
    subst (λ ps. IsPartitionPoint (λ p. ltb p.first c.args.end ≡ true) (λ p. ltb p.first c.args.end ≡ false) ps c.partition_point-to.result) same
    (IsPartitionPoint-from_clause (λ p. ltb p.first c.args.end) (take
    (length c.args.parts.now - c.partition_point-from.result) rest) c.partition_point-to.result c.partition_point-to.ensures.partitioned
    (IsPartitionedBy-ltb (λ p. p.first) (take (length c.args.parts.now - c.partition_point-from.result) rest) c.args.end
    (starts_rise 0 (take (length c.args.parts.now - c.partition_point-from.result) rest) (rw same order.parts)))
    (λ a r q k. search rules))

pub returns : goal.returns
returns c =
    let size = last_place in
    let first = c.args.first in
    let end = c.args.end in
    let parts = c.args.parts.now in
    let from = c.partition_point-from.result in
    let rest = drop from parts in
    let to = c.partition_point-to.result in
    let same = take_rest parts from in
    let order = rest_order size first end parts c.requires.order (omega arith) from in
    let low = split_from (goal.at.returns c).After-partition_point-from in
    let high = split_to c in
    record {
      order = rw same (front_order size first end rest order (omega arith) to);
      begins = rw same (front_starts size first end rest order (omega arith) to high.0);
      same = λ place le lt. rw same (front_bytes size first end rest order (omega arith) to high.1 place lt
          ∙ rest_bytes size first end parts c.requires.order (omega arith) from low.0 place le);
    }
