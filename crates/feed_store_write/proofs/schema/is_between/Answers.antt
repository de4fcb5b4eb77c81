use Rattle.std.proofs.Common.{arith, suc}
use Rattle.std.proofs.lemmas.Grind.{common_steps}
use Rattle.sqlite_sql.specs.declared.ops.BinaryOp.TheVariants.{And}
use Rattle.sqlite_sql.specs.declared.ops.CompareOp.TheVariants.{Ge, Le}
use Rattle.feed_store_model.specs.Layout.{bound_by}
use Rattle.feed_store_write.proofs.Terms.{stands-op2}
use Rattle.feed_store_write.proofs.schema.is_between.Goals as goal

pub returns-in-Some-Binary : goal.returns-in-Some-Binary
returns-in-Some-Binary c = λ depth.
    stands-op2 c.args.nodes.now (suc (suc depth)) c.args.at c.in-Some-Binary.left c.in-Some-Binary.right c.in-Some-Binary.op And
    (bound_by Ge c.args.place c.args.least) (bound_by Le c.args.place c.args.most) c.is_operator.result c.is_bound.result c.is_bound-in-Some-Binary.result
    (grind (arith, common_steps, c.in-Some-Binary.ensures.lookup)) c.is_operator.ensures (c.is_bound.ensures depth) (c.is_bound-in-Some-Binary.ensures depth)
