use Rattle.std.proofs.Common.{arith}
use Rattle.node_site.specs.Proxies.{open_of_platform}
use Rattle.node_site.specs.Site.{platform_of}
use Rattle.node_site.proofs.RowsMade.{next_row}
use Rattle.node_site.proofs.open_prefixes.put_rows.Goals as goal

pub loop-index-preserved : goal.loop-index-preserved
loop-index-preserved c = next_row platform_of open_of_platform c.args.rows.now.items
    c.loop-index.index c.index.result.now c.loop-index.prefixes.items c.put_row.new.prefixes.items _
    (omega (arith, c.loop-index-test.true)) c.index.ensures c.in_ok-put_row.ensures c.loop-index.invariant
