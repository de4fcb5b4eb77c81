use Rattle.std.proofs.Common.{[], refl}
use Rattle.sqlite.specs.Held.{state}
use Rattle.feed_store_write.specs.Effects.{IsExtension, IsTransition}
use Rattle.feed_store_write.specs.Schemas.{HasAllTables, HasPieceTable}
use Rattle.feed_store_write.specs.Texts.{reason_text}
use Rattle.feed_store_write.proofs.Inside.{made_by}
use Rattle.feed_store_write.proofs.Tables.{all_tables, creates_reason}
use Rattle.feed_store_write.proofs.Ran.{one_run}
use Rattle.feed_store_write.specs.Statements.{Plain}
use Rattle.feed_store_write.proofs.layout.create_reason.Goals as goal

pub returns-clause-made : goal.returns-clause-made
returns-clause-made g c clean =
    let old = state g.S.Store c.args.tx.now.conn.now in
    let new = state g.S.Store c.run.new.tx.conn.now in
    made_by reason_text [] old new IsExtension c.run.result (λ count ran. creates_reason old new count ran) (c.run.ensures.ran clean)

pub returns-clause-blank : goal.returns-clause-blank
returns-clause-blank g c clean =
    let old = state g.S.Store c.args.tx.now.conn.now in
    let new = state g.S.Store c.run.new.tx.conn.now in
    made_by reason_text [] old new (IsTransition HasPieceTable HasAllTables) c.run.result
    (λ count ran has. all_tables old.now new.now (creates_reason old new count ran) has) (c.run.ensures.ran clean)

pub returns-clause-ran : goal.returns-clause-ran
returns-clause-ran g c clean = one_run g.S.Store (Plain reason_text) reason_text [] c.args.tx.now.conn.now c.run.new.tx.conn.now c.run.result (refl, refl) (c.run.ensures.ran clean)
