use Rattle.std.proofs.Common.{[], refl}
use Rattle.sqlite.specs.Held.{state}
use Rattle.feed_store_write.specs.Effects.{IsRenumbering}
use Rattle.feed_store_write.specs.Texts.{set_version_text}
use Rattle.feed_store_write.proofs.Inside.{made_by}
use Rattle.feed_store_write.proofs.Renumbering.{renumbers}
use Rattle.feed_store_write.proofs.Ran.{one_run}
use Rattle.feed_store_write.specs.Statements.{Plain}
use Rattle.feed_store_write.proofs.upgrading.set_layout_number.Goals as goal

pub returns-clause-made : goal.returns-clause-made
returns-clause-made g c clean =
    let old = state g.S.Store c.args.tx.now.conn.now in
    let new = state g.S.Store c.run.new.tx.conn.now in
    made_by set_version_text [] old new IsRenumbering c.run.result (λ count ran. renumbers old new count ran) (c.run.ensures.ran clean)

pub returns-clause-ran : goal.returns-clause-ran
returns-clause-ran g c clean =
    one_run g.S.Store (Plain set_version_text) set_version_text [] c.args.tx.now.conn.now c.run.new.tx.conn.now c.run.result (refl, refl) (c.run.ensures.ran clean)
