use Rattle.std.proofs.Common.{flat_map, take}
use Rattle.feed_kbart.specs.ListChecks.{IsCheckOfList}
use Rattle.feed_kbart.proofs.list_check.read_windows.Given as goal

abbrev pub invariant-loop-window : goal.invariant-loop-window
invariant-loop-window l = IsCheckOfList (flat_map (λ w. w.now) (take l.window-index l.windows)) l.check
