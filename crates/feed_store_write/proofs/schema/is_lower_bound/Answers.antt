use Rattle.std.proofs.Common.{refl}
use Rattle.sqlite_sql.specs.declared.ops.CompareOp.TheVariants.{Ge}
use Rattle.feed_store_model.specs.Layout.{bound_by}
use Rattle.feed_store_write.proofs.Terms.{Stands, from-two, stands-deep}
use Rattle.feed_store_write.proofs.schema.is_lower_bound.Goals as goal

pub returns : goal.returns
returns c =
    let stands = from-two (Stands c.args.nodes.now c.args.at (bound_by Ge c.args.place 0) c.is_bound.result) c.is_bound.ensures in
    stands-deep c.args.nodes.now c.args.at 2 (bound_by Ge c.args.place 0) c.are_at_least.result c.is_bound.result refl c.are_at_least.ensures stands
