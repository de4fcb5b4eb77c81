use Rattle.feed_model.specs.Change.{merged}
use Rattle.feed_parts.specs.Shown.{shown_parts}
use Rattle.feed_parts.proofs.Joined.{joined_text}
use Rattle.feed_parts.proofs.reading.SegmentReader.new.Goals as goal

pub returns-clause-text : goal.returns-clause-text
returns-clause-text c = λ size within some. joined_text size (merged (shown_parts c.args.kept.now) (shown_parts c.args.new.now)) within some
