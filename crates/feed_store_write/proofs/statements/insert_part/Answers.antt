use Rattle.std.proofs.Common.{refl, ◌≡◌, rules, subst, List, ℕ}
use Rattle.sqlite.specs.Held.{state}
use Rattle.feed_names.specs.ReleaseName.{IsName, text_of}
use Rattle.feed_model.specs.Change.{changed}
use Rattle.feed_parts.specs.Shown.{shown_part}
use Rattle.feed_store_model.specs.Records.{with_part}
use Rattle.feed_store_model.proofs.AddedPart.{adds_part}
use Rattle.feed_store_write.specs.Effects.{IsContentChange}
use Rattle.feed_store_write.specs.Texts.{insert_piece_text}
use Rattle.feed_store_write.proofs.Inserts.{puts_piece}
use Rattle.feed_store_write.proofs.Inside.{made_by, nothing_done}
use Rattle.feed_store_write.proofs.Ran.{one_run}
use Rattle.feed_store_write.specs.Statements.{AddPart, part_params}
use Rattle.feed_store_write.proofs.statements.insert_part.Goals as goal

pub returns-clause-made : goal.returns-clause-made
returns-clause-made g c clean =
    let n = c.args.name.now in
    let p = shown_part c.args.part.now in
    let old = state g.S.Store c.args.tx.now.conn.now in
    let new = state g.S.Store c.run.new.tx.conn.now in
    let named : IsName (text_of n) n = subst (λ (u : List ℕ). IsName u n) c.text.ensures.value c.text.ensures.name in
    let place : c.in-Ok.place ≡ c.args.part.now.first = search rules in
    made_by insert_piece_text (part_params n p) old new (IsContentChange (changed n (with_part p))) c.run.result
    (λ count ran ours. adds_part n p old.now new.now named ours (puts_piece n p old new count ours.schema ran))
    (rw (c.as_text.ensures, c.to_sql.ensures, c.to_sql-2.ensures, c.text.ensures.value, place) at (c.run.ensures.ran clean))

pub returns-in_default-clause-inside : goal.returns-in_default-clause-inside
returns-in_default-clause-inside g c = nothing_done

pub returns-clause-ran : goal.returns-clause-ran
returns-clause-ran g c clean =
    let n = c.args.name.now in
    let p = shown_part c.args.part.now in
    let place : c.in-Ok.place ≡ c.args.part.now.first = search rules in
    one_run g.S.Store (AddPart n p) insert_piece_text (part_params n p) c.args.tx.now.conn.now c.run.new.tx.conn.now c.run.result (refl, refl)
    (rw (c.as_text.ensures, c.to_sql.ensures, c.to_sql-2.ensures, c.text.ensures.value, place) at (c.run.ensures.ran clean))
