use Rattle.std.proofs.Common.{arith, pos, suc}
use Rattle.std.proofs.lemmas.Grind.{common_steps}
use Rattle.sqlite_sql.specs.Term.{col, lit}
use Rattle.sqlite_sql.specs.declared.ops.BinaryOp.TheVariants.{Compare}
use Rattle.sqlite_value.specs.declared.keys.Collation.TheVariants.{Binary}
use Rattle.sqlite_value.specs.declared.value.Value.TheVariants.{Int}
use Rattle.feed_store_write.proofs.Terms.{stands-op2}
use Rattle.feed_store_write.proofs.schema.is_bound.Goals as goal

pub returns-in-Some-Binary : goal.returns-in-Some-Binary
returns-in-Some-Binary c = λ depth.
    stands-op2 c.args.nodes.now (suc depth) c.args.at c.in-Some-Binary.left c.in-Some-Binary.right c.in-Some-Binary.op (Compare c.args.how Binary)
    (col 1 c.args.place) (lit (Int (pos c.args.number))) c.is_operator.result c.is_place.result c.is_number.result
    (grind (arith, common_steps, c.in-Some-Binary.ensures.lookup)) c.is_operator.ensures (c.is_place.ensures depth) (c.is_number.ensures depth)
