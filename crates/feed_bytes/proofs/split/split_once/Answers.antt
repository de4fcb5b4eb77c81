use Rattle.std.proofs.Common.{◌∙◌, sym}
use Rattle.feed_bytes.proofs.PartsCut.{cut_sliced, cut_nowhere}
use Rattle.feed_bytes.proofs.split.split_once.Goals as goal

pub returns-in-Some-clause-parts : goal.returns-in-Some-clause-parts
returns-in-Some-clause-parts c = cut_sliced c.args.byte c.args.text.now c.in-Some.place (sym c.place_of.ensures.value ∙ c.in-Some.is)

pub returns-in-None-clause-whole : goal.returns-in-None-clause-whole
returns-in-None-clause-whole c = cut_nowhere c.args.byte c.args.text.now c.in-None.ensures.none
