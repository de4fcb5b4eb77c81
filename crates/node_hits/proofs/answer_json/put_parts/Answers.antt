use Rattle.std.proofs.Common.{get_or}
use Rattle.std.proofs.lemmas.List.{get_or_default}
use Rattle.feed_citation.specs.declared.citation_part.CitationPart.TheVariants as part
use Rattle.node_hits.specs.AnswerJson.{part_member}
use Rattle.node_hits.proofs.Loops.{flat_next}
use Rattle.node_hits.proofs.answer_json.put_parts.Goals as goal

pub loop-part-preserved : goal.loop-part-preserved
loop-part-preserved c =
    let parts = c.args.parts.now in
    let i = c.loop-part.part-index in
    let one = get_or parts i part.Article in
    flat_next (part_member c.args.citation.now) parts i one c.loop-part-test.true (get_or_default parts i part.Article one c.loop-part-test.true)
    c.args.out.now.items c.loop-part.out.items c.put_part.new.out.items c.loop-part.invariant c.in_ok-put_part.ensures
