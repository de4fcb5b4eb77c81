use Rattle.std.proofs.Common.{◌≡◌, length}
use Rattle.feed_http_heads.specs.Options.{lists}
use Rattle.feed_http_heads.proofs.options.lists.Given as goal

abbrev pub invariant-loop-element : goal.invariant-loop-element
invariant-loop-element l = lists l.option l.rest ≡ lists l.option l.value

abbrev pub decreases-loop-element : goal.decreases-loop-element
decreases-loop-element l = length l.rest
