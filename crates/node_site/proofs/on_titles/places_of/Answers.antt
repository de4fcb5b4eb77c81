use Rattle.std.proofs.Common.{arith}
use Rattle.node_site.specs.Held.{is_on_title}
use Rattle.node_site.specs.Site.{title_of}
use Rattle.node_site.proofs.FirstRows.{all_rows, first_row, next_row}
use Rattle.node_site.proofs.on_titles.places_of.Goals as goal

pub loop-index-init : goal.loop-index-init
loop-index-init c = λ id. first_row title_of (is_on_title id) c.args.rows.now.items _ (c.new-places.ensures id)

pub loop-index-preserved : goal.loop-index-preserved
loop-index-preserved c = λ id. next_row title_of (is_on_title id) c.args.rows.now.items c.loop-index.index c.index.result.now _ _ _
    (omega (arith, c.loop-index-test.true)) c.index.ensures (c.in_ok-put_on_title.ensures id) (c.loop-index.invariant id)

pub returns : goal.returns
returns c = λ id. all_rows title_of (is_on_title id) c.args.rows.now.items c.loop-index.index _ _ (omega (arith, c.loop-index-test.false)) (c.loop-index.invariant id)
