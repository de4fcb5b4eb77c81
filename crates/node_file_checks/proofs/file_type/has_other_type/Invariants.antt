use Rattle.std.proofs.Common.{◌≤◌, length}
use Rattle.feed_http_heads.specs.Limits.{head_limit}
use Rattle.node_file_checks.proofs.ResponseHeads.{HasSameHead}
use Rattle.node_file_checks.proofs.file_type.has_other_type.Given as goal

abbrev pub invariant-loop-spans : goal.invariant-loop-spans
invariant-loop-spans l = (length l.text ≤ head_limit) × HasSameHead l.fn.reply l.text

abbrev pub decreases-loop-spans : goal.decreases-loop-spans
decreases-loop-spans l = length l.text
