use Rattle.std.proofs.Common.{refl}
use Rattle.feed_store_model.specs.Layout.{between}
use Rattle.feed_store_write.proofs.Terms.{Stands, from-three, stands-deep}
use Rattle.feed_store_write.proofs.schema.is_range.Goals as goal

pub returns : goal.returns
returns c =
    let wanted = between c.args.place c.args.least c.args.most in
    let stands = from-three (Stands c.args.nodes.now c.args.at wanted c.is_between.result) c.is_between.ensures in
    stands-deep c.args.nodes.now c.args.at 3 wanted c.are_at_least.result c.is_between.result refl c.are_at_least.ensures stands
