use Rattle.std.proofs.Common.{◌≡◌, not, take}
use Rattle.std.specs.List.{filter}
use Rattle.cmd_report.specs.Pairing.{is_single}
use Rattle.cmd_report.proofs.singles.split_singles.Given as goal

abbrev pub invariant-loop-place : goal.invariant-loop-place
invariant-loop-place l =
    (l.singles.items ≡ filter (is_single l.by l.rows) (take l.place l.rows))
    × (l.others.items ≡ filter (λ row. not (is_single l.by l.rows row)) (take l.place l.rows))
