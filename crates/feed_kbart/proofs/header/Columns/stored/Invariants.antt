use Rattle.std.proofs.Common.{◌≡◌, Some, None, fold, replicate, set, take}
use Rattle.feed_kbart.specs.Labels.{label_count, slot, used_labels}
use Rattle.feed_kbart.proofs.header.Columns.stored.Given as goal

-- the slots of the labels so far are filled
abbrev pub invariant-loop-label : goal.invariant-loop-label
invariant-loop-label l = l.columns ≡ fold (λ columns label. set columns (slot label) (Some (slot label))) (replicate label_count None) (take l.label-index used_labels)
