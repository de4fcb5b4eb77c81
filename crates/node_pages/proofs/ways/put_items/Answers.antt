use Rattle.node_templates.proofs.Parts.{page_next}
use Rattle.node_pages.specs.Ways.{way_parts}
use Rattle.node_pages.proofs.ways.put_items.Goals as goal

pub loop-link-preserved : goal.loop-link-preserved
loop-link-preserved c =
    page_next c.args.site.now way_parts c.args.links.now c.loop-link.link-index c.link-item.result c.loop-link-test.true
    c.link-item.is c.args.out.now.items c.loop-link.out.items c.put_way.new.out.items c.loop-link.invariant c.in_ok-put_way.ensures
