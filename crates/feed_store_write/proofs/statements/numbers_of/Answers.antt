use Rattle.std.proofs.Common.{◌≡◌, Some, refl, ap, ◌∙◌}
use Rattle.std.specs.List.{Contains}
use Rattle.feed_kbart.specs.Labels.{label_at, required_labels}
use Rattle.feed_store_model.proofs.Stored.{required_early}
use Rattle.feed_store_write.proofs.statements.numbers_of.Goals as goal

pub returns-in-MissingLabel : goal.returns-in-MissingLabel
returns-in-MissingLabel c = λ stored.
    let label = c.in-MissingLabel.label in
    let at : label_at c.from.result ≡ Some label = ap label_at c.from.ensures ∙ c.place.ensures in
    let required : Contains required_labels label = rw c.in-MissingLabel.is at stored in
    rw (required_early c.from.result label at required, at, c.in-MissingLabel.is) refl
