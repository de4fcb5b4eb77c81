use Rattle.std.proofs.Common.{◌++◌, take}
use Rattle.std.specs.List.{flat_map}
use Rattle.std.specs.Fmt.{decimal}
use Rattle.std.specs.Io.KnownBytes.{Appends}
use Rattle.feed_answer.specs.Answers.{after_tab}
use Rattle.feed_answer.specs.Grades.{grade_text}
use Rattle.feed_answer.proofs.hits.write_hit.Given as goal

-- the number, the grade and the texts so far are written, with tabs between them
abbrev pub invariant-loop-text : goal.invariant-loop-text
invariant-loop-text g l =
    Appends (g.W.Write.contents l.fn.out) (g.W.Write.contents l.out)
    ((decimal l.number ++ after_tab (grade_text l.fn.grade)) ++ flat_map (λ text. after_tab text.now) (take l.text-index l.text-items))
