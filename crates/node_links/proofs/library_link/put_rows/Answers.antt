use Rattle.std.proofs.Common.{arith}
use Rattle.node_links.specs.LibraryLinks.{made_link}
use Rattle.node_site.specs.Site.{link_of}
use Rattle.node_site.proofs.RowsMade.{next_row}
use Rattle.node_links.proofs.library_link.put_rows.Goals as goal

pub loop-index-preserved : goal.loop-index-preserved
loop-index-preserved c = next_row link_of (made_link c.args.asked.now.usage c.args.asked.now.outcome c.args.asked.now.cited.now) c.args.rows.now.items
    c.loop-index.index c.index.result.now c.loop-index.links.items c.put_row.new.links.items _
    (omega (arith, c.loop-index-test.true)) c.index.ensures c.in_ok-put_row.ensures c.loop-index.invariant
