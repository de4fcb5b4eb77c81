use Rattle.std.proofs.Common.{◌∙◌, ap}
use Rattle.feed_answer.specs.Grades.{grade_of}
use Rattle.feed_answer.proofs.grade.grade_of.Goals as goal

pub returns : goal.returns
returns c = c.grade_of_cells.ensures ∙ ap (grade_of c.args.query.now) c.cells.ensures.content
