use Rattle.node_templates.proofs.Parts.{page_next}
use Rattle.node_pages.specs.TitlesPage.{title_card}
use Rattle.node_pages.proofs.titles_page.put_title_cards.Goals as goal

pub loop-entry-preserved : goal.loop-entry-preserved
loop-entry-preserved c =
    page_next c.args.site.now (title_card c.args.site.now) c.args.found.now c.loop-entry.entry-index c.entry-item.result c.loop-entry-test.true
    c.entry-item.is c.args.out.now.items c.loop-entry.out.items c.put_title_card.new.out.items c.loop-entry.invariant c.in_ok-put_title_card.ensures
