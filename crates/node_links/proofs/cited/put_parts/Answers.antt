use Rattle.std.proofs.Common.{◌∙◌, ◌++◌, ap, get_or, sym, ℕ, List, take}
use Rattle.std.specs.List.{flat_map}
use Rattle.std.proofs.lemmas.List.{flat_map_more, take_more}
use Rattle.feed_citation.specs.declared.citation_part.CitationPart.{CitationPart}
use Rattle.feed_citation.specs.declared.citation_part.CitationPart.TheVariants as part
use Rattle.node_links.specs.Requests.{part_pair}
use Rattle.node_links.proofs.cited.put_parts.Goals as goal

pub loop-part-preserved : goal.loop-part-preserved
loop-part-preserved c =
    let parts = c.args.parts.now in
    let i = c.loop-part.part-index in
    let f = part_pair c.args.citation.now in
    let first = c.args.out.now.items in
    c.in_ok-put_part.ensures ∙ ap (λ (o : List ℕ). o ++ f (get_or parts i part.Article)) c.loop-part.invariant
    ∙ flat_map_more f first (take i parts) (get_or parts i part.Article)
    ∙ ap (λ (ps : List CitationPart). first ++ flat_map f ps) (sym (take_more parts i part.Article c.loop-part-test.true))
