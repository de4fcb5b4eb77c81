use Rattle.std.proofs.Common.{◌++◌, length, take}
use Rattle.std.specs.List.{flat_map}
use Rattle.std.specs.Io.KnownBytes.{Appends}
use Rattle.feed_names.specs.ReleaseName.{text_of}
use Rattle.feed_answer.specs.Answers.{head_line, hit_line}
use Rattle.feed_answer.specs.HitValue.{hit_of}
use Rattle.feed_answer.proofs.hits.Answer.write.Given as goal

-- the first line and the lines of the hits so far are written
abbrev pub invariant-loop-hit : goal.invariant-loop-hit
invariant-loop-hit g l =
    Appends (g.W.Write.contents l.fn.out) (g.W.Write.contents l.out)
    (head_line (text_of l.name) (length l.hit-items) ++ flat_map (λ hit. hit_line (hit_of hit)) (take l.hit-index l.hit-items))
