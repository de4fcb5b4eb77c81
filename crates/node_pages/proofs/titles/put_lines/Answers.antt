use Rattle.node_hits.proofs.Loops.{flat_next}
use Rattle.node_pages.specs.Titles.{title_line}
use Rattle.node_pages.proofs.titles.put_lines.Goals as goal

pub loop-entry-preserved : goal.loop-entry-preserved
loop-entry-preserved c =
    flat_next title_line c.args.found.now c.loop-entry.entry-index c.entry-item.result c.loop-entry-test.true c.entry-item.is
    c.args.out.now.items c.loop-entry.out.items c.put_line.new.out.items c.loop-entry.invariant c.in_ok-put_line.ensures
