use Rattle.std.proofs.Common.{arith}
use Rattle.feed_parts.specs.Shown.{shown_parts}
use Rattle.feed_parts.proofs.Counting.{missing_total}
use Rattle.feed_parts.proofs.segments.Segments.missing.Goals as goal

pub returns : goal.returns
returns c = rw (← c.self.view_is)
    (omega (arith, c.self.invariant.1, c.saturating_sub.ensures, missing_total c.args.size (shown_parts c.self.inside.parts.items) (rw (← c.self.view_is) at c.requires)))
