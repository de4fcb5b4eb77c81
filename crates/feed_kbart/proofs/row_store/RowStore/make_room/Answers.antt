use Rattle.feed_kbart.proofs.Drafts.{sealed}
use Rattle.feed_kbart.proofs.row_store.RowStore.make_room.Goals as goal

pub returns-clause-same : goal.returns-clause-same
returns-clause-same c rows are =
    rw c.reserve_exact.ensures.items
    (sealed rows c.args.self.now c.seal.new.self c.in_ok-seal.ensures.rows c.in_ok-seal.ensures.block c.in_ok-seal.ensures.drafts are)
