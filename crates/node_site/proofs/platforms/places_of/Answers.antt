use Rattle.std.proofs.Common.{arith}
use Rattle.std.specs.Str.{str_to_ascii_lowercase}
use Rattle.node_site.specs.Platforms.{is_platform}
use Rattle.node_site.specs.Site.{platform_of}
use Rattle.node_site.proofs.FirstRows.{all_rows, first_row, next_row}
use Rattle.node_site.proofs.platforms.places_of.Goals as goal

pub loop-index-init : goal.loop-index-init
loop-index-init c = λ host. first_row platform_of (is_platform host) c.args.rows.now.items _ (c.new-places.ensures (str_to_ascii_lowercase host))

pub loop-index-preserved : goal.loop-index-preserved
loop-index-preserved c = λ host. next_row platform_of (is_platform host) c.args.rows.now.items c.loop-index.index c.index.result.now _ _ _
    (omega (arith, c.loop-index-test.true)) c.index.ensures (c.in_ok-put_platform.ensures host) (c.loop-index.invariant host)

pub returns : goal.returns
returns c = λ host. all_rows platform_of (is_platform host) c.args.rows.now.items c.loop-index.index _ _ (omega (arith, c.loop-index-test.false)) (c.loop-index.invariant host)
