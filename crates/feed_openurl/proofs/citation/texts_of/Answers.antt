use Rattle.std.proofs.Common.{get_or, map}
use Rattle.std.proofs.lemmas.List.{get_or_default}
use Rattle.feed_openurl.specs.Citations.{part_text}
use Rattle.feed_citation.specs.declared.citation_part.CitationPart.TheVariants as part
use Rattle.feed_openurl.proofs.Steps.{mapped_next}
use Rattle.feed_openurl.proofs.citation.texts_of.Goals as goal

pub loop-part-preserved : goal.loop-part-preserved
loop-part-preserved c =
    let parts = c.args.parts.now in
    let i = c.loop-part.part-index in
    let one = get_or parts i part.Article in
    mapped_next (part_text c.args.offers.now) parts i one c.loop-part.texts.items c.push_text.new.texts.items
    (map (part_text c.args.offers.now) parts) c.loop-part-test.true (get_or_default parts i part.Article one c.loop-part-test.true)
    c.in_ok-push_text.ensures c.loop-part.invariant
