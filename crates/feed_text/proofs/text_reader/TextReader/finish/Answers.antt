use Rattle.std.proofs.Math.Logic.{∥∥₁_elim}
use Rattle.feed_text.proofs.Readings.{known-prop}
use Rattle.feed_text.proofs.text_reader.TextReader.finish.Goals as goal

pub returns-clause-checked : goal.returns-clause-checked
returns-clause-checked g c = ∥∥₁_elim c.args.self.read (known-prop g.G.Given.given _) (c.check_rest.ensures.checked g.G.Given.given)

pub returns-clause-failed : goal.returns-clause-failed
returns-clause-failed g c failed = c.check_rest.ensures.failed (c.check_rest.ensures.stays failed)
