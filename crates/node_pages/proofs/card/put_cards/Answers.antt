use Rattle.std.proofs.Common.{◌++◌, ◌∙◌, ap}
use Rattle.node_hits.specs.Hits.{ReleaseHitValue}
use Rattle.node_templates.specs.Pages.{page_text}
use Rattle.node_templates.proofs.Parts.{page_next}
use Rattle.node_pages.specs.Cards.{card_parts}
use Rattle.node_pages.proofs.card.put_cards.Goals as goal

pub loop-row-preserved : goal.loop-row-preserved
loop-row-preserved c =
    let site = c.args.site.now in
    let card = card_parts site c.args.cited.now c.args.fit in
    page_next site card c.args.rows.now c.loop-row.row-index c.row-item.result c.loop-row-test.true c.row-item.is
    c.args.out.now.items c.loop-row.out.items c.put_card.new.out.items c.loop-row.invariant
    (c.in_ok-put_card.ensures ∙ ap (λ (found : ReleaseHitValue). c.loop-row.out.items ++ page_text site (card found)) c.hit.ensures)
