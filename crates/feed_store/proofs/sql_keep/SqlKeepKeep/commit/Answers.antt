use Rattle.feed_model.specs.Reply.{max_held}
use Rattle.feed_store.proofs.sql_keep.SqlKeepKeep.commit.Goals as goal

pub make-requires-clause-allowed : goal.make-requires-clause-allowed
make-requires-clause-allowed g c = λ clean. (max_held, c.requires.allowed clean)
