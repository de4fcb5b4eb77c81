use Rattle.std.proofs.Common.{rules}
use Rattle.std.specs.Prelude.{nat_le}
use Rattle.std.proofs.lemmas.List.Sorted.{IsPartitionPoint-from_clause}
use Rattle.node_hits.specs.Hits.{rank_of}
use Rattle.node_hits.proofs.Tops.{is_partitioned, is_place, place_is}
use Rattle.node_hits.proofs.top.place_of.Goals as goal

pub returns-clause-split : goal.returns-clause-split
returns-clause-split c =
    is_place c.args.rank c.args.hits.now c.partition_point.result
    (IsPartitionPoint-from_clause (λ f. nat_le c.args.rank (rank_of f)) c.args.hits.now c.partition_point.result c.partition_point.ensures.partitioned
    (is_partitioned c.args.rank c.args.hits.now c.requires) (λ a r q k. search rules))

pub returns-clause-value : goal.returns-clause-value
returns-clause-value c =
    place_is c.args.rank c.args.hits.now c.partition_point.result c.partition_point.ensures.bound (returns-clause-split c)
