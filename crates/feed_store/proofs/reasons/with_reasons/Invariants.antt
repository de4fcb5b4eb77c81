use Rattle.std.proofs.Common.{◌≡◌, ◌++◌}
use Rattle.feed_keep.specs.Shown.{shown}
use Rattle.feed_store.specs.Upgraded.{AddReasons}
use Rattle.feed_store.proofs.reasons.with_reasons.Given as goal

abbrev pub invariant-loop-record : goal.invariant-loop-record
invariant-loop-record l = record {
  explained : AddReasons (shown l.yielded) (shown l.explained.items);
  left : l.yielded ++ l.record-iterator.rest.items ≡ l.fn.records.items;
}
