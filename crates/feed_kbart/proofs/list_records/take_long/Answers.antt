use Rattle.std.proofs.Common.{◌≡◌, ◌∙◌, ◌∷◌, [], sym}
use Rattle.std.proofs.lemmas.Result.{IfOk-weaker}
use Rattle.feed_kbart.specs.Stored.{in_order}
use Rattle.feed_kbart.proofs.list_records.take_long.Goals as goal

pub returns-in-Some-clause-row : goal.returns-in-Some-clause-row
returns-in-Some-clause-row c =
    let some_row = sym c.take.ensures.value ∙ c.in-Some.is in
    IfOk-weaker c.with.result _ _ (λ row grown begun some was. grown (in_order c.args.columns.now) begun some (rw some_row at was)) c.with.ensures

pub returns-in-None-clause-row : goal.returns-in-None-clause-row
returns-in-None-clause-row c =
    let no_row = sym c.take.ensures.value ∙ c.in-None.is in
    IfOk-weaker c.with-in-None.result _ _ (λ row grown begun some was.
    let first : begun ≡ [] ∷ [] = rw no_row at was in
    rw first (grown (in_order c.args.columns.now) ([] ∷ []) some (rw c.in_order.ensures at c.new.ensures))) c.with-in-None.ensures
