use Rattle.std.proofs.Common.{◌≡◌, ◌<◌, ◌+◌, ◌-◌, ℕ, List, Option, false}
use Rattle.feed_text.specs.Checks.{IsReadTo}
use Rattle.feed_text.specs.Failures.{has_failed}
use Rattle.feed_limits.specs.Limits.{file_limit}
use Rattle.feed_text.proofs.text_reader.check_rest.Given as goal

abbrev pub invariant-loop-check : goal.invariant-loop-check
invariant-loop-check g l = record {
  some : 0 < l.block.len;
  read : (given : Option (List ℕ)) → IsReadTo given (g.R.Read.remaining l.fn.reader.reader) l.fn.check → IsReadTo given (g.R.Read.remaining l.reader.reader) l.check;
  going : has_failed l.reader ≡ false;
}

abbrev pub decreases-loop-check : goal.decreases-loop-check
decreases-loop-check g l = file_limit + 1 - l.check.total
