use Rattle.std.proofs.Common.{arith}
use Rattle.feed_releases.proofs.Dropping.{empty_len, free_work, none_left, read_work, some_left, some_len}
use Rattle.feed_releases.proofs.feed.Feed.catch_up.Goals as goal
use Rattle.feed_releases.proofs.feed.Feed.catch_up.Goals.{then-is_empty, else-is_empty}

pub returns-clause-less : goal.returns-clause-less
returns-clause-less g c =
    let leftovers = c.args.self.now.leftovers in
    elim c.if-is_empty.branch [
      | then-is_empty w ↦ rw w.self-is (
          let has = rw w.self-is at c.has_work.ensures in
          let none = none_left leftovers.items (omega (arith, empty_len leftovers.len c.is_empty.result c.is_empty.ensures w.if-is_empty.true, leftovers.ok.0)) in
          λ t. read_work _ _ _ _ w.read_ahead.ensures.leftovers none w.read_ahead.ensures.less (has.0 t))
      | else-is_empty w ↦ rw w.self-is (
          let some = some_left leftovers.items (omega (arith, some_len leftovers.len c.is_empty.result c.is_empty.ensures w.if-is_empty.false, leftovers.ok.0)) in
          λ t. free_work _ _ _ (w.free_portion.ensures some))
    ]
