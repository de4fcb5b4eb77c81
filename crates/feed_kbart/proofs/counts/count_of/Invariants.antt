use Rattle.std.proofs.Common.{◌≡◌, ◌≤◌, count_by, take}
use Rattle.feed_kbart.specs.Counts.{is_for}
use Rattle.feed_kbart.proofs.counts.count_of.Given as goal

abbrev pub invariant-loop-aside : goal.invariant-loop-aside
invariant-loop-aside l =
    (l.count ≡ count_by (is_for l.reason) (take l.aside-index l.skipped)) × (l.count ≤ l.aside-index)
