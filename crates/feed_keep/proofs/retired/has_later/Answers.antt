use Rattle.std.proofs.Common.{◌∙◌, length, sym, rules}
use Rattle.std.proofs.lemmas.List.Sorted.{IsPartitionPoint-from_clause}
use Rattle.feed_keep.proofs.Later.{earlier_test, is_below, is_passed, is_past, later_none, later_some, partitioned}
use Rattle.feed_keep.proofs.retired.has_later.Goals as goal

pub returns-in-Some : goal.returns-in-Some
returns-in-Some c =
    let ms = c.args.actives.now in
    let within = is_below c.partition_point-at.result (length ms) (sym c.in-Some.ensures.lookup.0) in
    let split = IsPartitionPoint-from_clause (is_passed c.args.name.now) ms c.partition_point-at.result c.partition_point-at.ensures.partitioned
    (partitioned c.args.name.now ms c.requires.order) (λ a r q k. search rules) in
    let test = earlier_test c.earlier_than.result c.args.name.now c.in-Some.active.now.now c.earlier_than.ensures in
    test ∙ later_some c.args.name.now ms c.requires.order c.partition_point-at.result split c.in-Some.active.now within (sym c.in-Some.ensures.lookup.1)

pub returns-in-None : goal.returns-in-None
returns-in-None c =
    let ms = c.args.actives.now in
    let split = IsPartitionPoint-from_clause (is_passed c.args.name.now) ms c.partition_point-at.result c.partition_point-at.ensures.partitioned
    (partitioned c.args.name.now ms c.requires.order) (λ a r q k. search rules) in
    later_none c.args.name.now ms c.requires.order c.partition_point-at.result split (is_past c.partition_point-at.result (length ms) (sym c.in-None.ensures.lookup.0))
