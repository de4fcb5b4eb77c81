use Rattle.std.proofs.Common.{[], refl}
use Rattle.sqlite.specs.Held.{state}
use Rattle.feed_store_write.specs.Effects.{IsBlank, IsTransition}
use Rattle.feed_store_write.specs.Schemas.{HasAllTables}
use Rattle.feed_store_write.specs.Texts.{insert_version_text}
use Rattle.feed_store_write.proofs.Inserts.{puts_version}
use Rattle.feed_store_write.proofs.Inside.{made_by}
use Rattle.feed_store_write.proofs.Tables.{numbered}
use Rattle.feed_store_write.proofs.Ran.{one_run}
use Rattle.feed_store_write.specs.Statements.{Plain}
use Rattle.feed_store_write.proofs.layout.insert_version.Goals as goal

pub returns-clause-made : goal.returns-clause-made
returns-clause-made g c clean =
    let old = state g.S.Store c.args.tx.now.conn.now in
    let new = state g.S.Store c.run.new.tx.conn.now in
    made_by insert_version_text [] old new (IsTransition HasAllTables IsBlank) c.run.result
    (λ count ran has. numbered old.now new.now has (puts_version old new count has.schema_is ran)) (c.run.ensures.ran clean)

pub returns-clause-ran : goal.returns-clause-ran
returns-clause-ran g c clean = one_run g.S.Store (Plain insert_version_text) insert_version_text [] c.args.tx.now.conn.now c.run.new.tx.conn.now c.run.result (refl, refl) (c.run.ensures.ran clean)
