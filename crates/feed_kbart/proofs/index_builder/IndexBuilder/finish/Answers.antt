use Rattle.std.proofs.Common.{◌≤◌, List, arith, length}
use Rattle.std.proofs.lemmas.Result.{IfOk-weaker}
use Rattle.feed_limits.specs.Limits.{file_limit}
use Rattle.feed_kbart.specs.Index.{AreIndexed, IsIndexOf}
use Rattle.feed_kbart.specs.RowValue.{RowValue}
use Rattle.feed_kbart.specs.Runs.{HasEntries, weight_of}
use Rattle.feed_kbart.proofs.Listed.{indexed}
use Rattle.feed_kbart.proofs.index_builder.IndexBuilder.finish.Goals as goal

pub returns : goal.returns
returns c =
    IfOk-weaker c.finish.result (HasEntries (λ weight. weight_of weight c.seal.new.self.runs))
    (λ index. (rows : List RowValue) → length rows ≤ file_limit → AreIndexed rows c.args.self → IsIndexOf rows index) (λ index has rows few are.
    indexed c.one_identifier_for_key.ensures rows index (λ weight. weight_of weight c.seal.new.self.runs) (omega (arith, few))
    are.printed has (λ weight. omega (arith, c.in_ok-seal.ensures.same weight, are.same weight))) c.finish.ensures
