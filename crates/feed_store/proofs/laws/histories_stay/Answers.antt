use Rattle.feed_store_model.specs.Tables.{stored_content, content_without_reasons}
use Rattle.feed_store.proofs.Histories.{explained}
use Rattle.feed_store.proofs.laws.histories_stay.Goals as goal

pub returns : goal.returns
returns c old new h listed is up =
    c.contents_move.ensures (content_without_reasons old) (stored_content new) h is (explained h (content_without_reasons old) (stored_content new) is (up.content listed))
