use Rattle.feed_kbart.proofs.Readings.{index_of_store}
use Rattle.feed_kbart.proofs.indexed_store.IndexedStore.finish.Goals as goal

pub returns : goal.returns
returns c = (
  c.in_ok-rows.ensures,
  index_of_store c.args.self.store c.args.self.index c.in_ok-rows.rows.items c.in_ok-index.index (c.args.self.held c.if-not-whole.false)
      (rw c.if-not-has_few_rows.false at c.has_few_rows.ensures.few) c.in_ok-rows.ensures c.in_ok-index.ensures,
)

pub returns-then-not-has_few_rows : goal.returns-then-not-has_few_rows
returns-then-not-has_few_rows c = rw c.if-not-has_few_rows.true at c.has_few_rows.ensures.many
