use Rattle.feed_keep.specs.Shown.{shown}
use Rattle.feed_store.proofs.Placed.{converted}
use Rattle.feed_store.proofs.Reasoned.{all_stored}
use Rattle.feed_store.proofs.adopt.read_with_reasons.Goals as goal

pub returns-in-Ok-clause-stored : goal.returns-in-Ok-clause-stored
returns-in-Ok-clause-stored g c = all_stored (shown c.in-Some.records.items) (shown c.in-Ok.records.items) c.in-Ok.ensures

pub returns-in_err-records-clause-cause : goal.returns-in_err-records-clause-cause
returns-in_err-records-clause-cause g c = converted c.from_residual.result _ _ c.from_residual.ensures.1 (λ e is. is.1)
