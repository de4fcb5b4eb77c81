use Rattle.std.proofs.Common.{◌≡◌, ◌++◌, take}
use Rattle.feed_metrics.specs.Labels.{label_text}
use Rattle.feed_metrics.proofs.label_value.put_label.Given as goal

abbrev pub invariant-loop-byte : goal.invariant-loop-byte
invariant-loop-byte l = l.out.items ≡ l.fn.out.items ++ label_text (take l.byte-index l.text)
