use Rattle.std.proofs.lemmas.Result.{on_ok_weaker}
use Rattle.sqlite.specs.Held.{state}
use Rattle.feed_store_write.specs.Effects.{IsBlank}
use Rattle.feed_store_write.specs.Schemas.{HasAllTables, HasLayoutTable, HasNoTable, HasPieceTable, HasReleaseTable}
use Rattle.feed_store_write.proofs.Inside.{both_inside, clean_before}
use Rattle.feed_store_write.proofs.Sequence.{leads_then}
use Rattle.std.proofs.Common.{[], ◌∷◌}
use Rattle.feed_store_write.proofs.Ran.{runs_both, runs_then}
use Rattle.feed_store_write.specs.Texts.{insert_version_text, layout_text, piece_text, reason_text, release_text}
use Rattle.feed_store_write.specs.Statements.{Plain}
use Rattle.feed_store_write.proofs.layout.create_all.Goals as goal

pub returns-in_err-create_release-clause-inside : goal.returns-in_err-create_release-clause-inside
returns-in_err-create_release-clause-inside g c = both_inside c.create_layout.ensures.inside c.create_release.ensures.inside

pub returns-in_err-create_piece-clause-inside : goal.returns-in_err-create_piece-clause-inside
returns-in_err-create_piece-clause-inside g c = both_inside (both_inside c.create_layout.ensures.inside c.create_release.ensures.inside) c.create_piece.ensures.inside

pub returns-in_err-create_reason-clause-inside : goal.returns-in_err-create_reason-clause-inside
returns-in_err-create_reason-clause-inside g c =
    both_inside (both_inside (both_inside c.create_layout.ensures.inside c.create_release.ensures.inside) c.create_piece.ensures.inside) c.create_reason.ensures.inside

pub returns-clause-inside : goal.returns-clause-inside
returns-clause-inside g c =
    let three = both_inside (both_inside c.create_layout.ensures.inside c.create_release.ensures.inside) c.create_piece.ensures.inside in
    both_inside (both_inside three c.create_reason.ensures.inside) c.insert_version.ensures.inside

pub returns-clause-made : goal.returns-clause-made
returns-clause-made g c clean =
    let h4 = clean_before c.insert_version.ensures.inside clean in
    let h3 = clean_before c.create_reason.ensures.inside h4 in
    let h2 = clean_before c.create_piece.ensures.inside h3 in
    let h1 = clean_before c.create_release.ensures.inside h2 in
    let m2 = leads_then HasNoTable HasLayoutTable HasReleaseTable (state g.S.Store c.args.tx.now.conn.now) (state g.S.Store c.create_layout.new.tx.conn.now)
    (state g.S.Store c.create_release.new.tx.conn.now) (c.in_ok-create_layout.ensures.made h1) (c.in_ok-create_release.ensures.made h2) in
    let m3 = leads_then HasNoTable HasReleaseTable HasPieceTable (state g.S.Store c.args.tx.now.conn.now) (state g.S.Store c.create_release.new.tx.conn.now)
    (state g.S.Store c.create_piece.new.tx.conn.now) m2 (c.in_ok-create_piece.ensures.made h3) in
    let m4 = leads_then HasNoTable HasPieceTable HasAllTables (state g.S.Store c.args.tx.now.conn.now) (state g.S.Store c.create_piece.new.tx.conn.now)
    (state g.S.Store c.create_reason.new.tx.conn.now) m3 (c.in_ok-create_reason.ensures.blank h4) in
    on_ok_weaker c.insert_version.result
    (leads_then HasNoTable HasAllTables IsBlank (state g.S.Store c.args.tx.now.conn.now) (state g.S.Store c.create_reason.new.tx.conn.now) (state g.S.Store c.insert_version.new.tx.conn.now) m4)
    (c.insert_version.ensures.made clean)

pub returns-clause-ran : goal.returns-clause-ran
returns-clause-ran g c clean =
    let old = c.args.tx.now.conn.now in
    let h4 = clean_before c.insert_version.ensures.inside clean in
    let h3 = clean_before c.create_reason.ensures.inside h4 in
    let h2 = clean_before c.create_piece.ensures.inside h3 in
    let h1 = clean_before c.create_release.ensures.inside h2 in
    let r2 = runs_then g.S.Store (Plain layout_text ∷ []) (Plain release_text ∷ []) old c.create_layout.new.tx.conn.now c.create_release.new.tx.conn.now (c.in_ok-create_layout.ensures.ran h1)
    (c.in_ok-create_release.ensures.ran h2) in
    let r3 = runs_then g.S.Store (Plain layout_text ∷ Plain release_text ∷ []) (Plain piece_text ∷ []) old c.create_release.new.tx.conn.now c.create_piece.new.tx.conn.now r2
    (c.in_ok-create_piece.ensures.ran h3) in
    let r4 = runs_then g.S.Store (Plain layout_text ∷ Plain release_text ∷ Plain piece_text ∷ []) (Plain reason_text ∷ []) old c.create_piece.new.tx.conn.now
    c.create_reason.new.tx.conn.now r3 (c.in_ok-create_reason.ensures.ran h4) in
    runs_both g.S.Store (Plain layout_text ∷ Plain release_text ∷ Plain piece_text ∷ Plain reason_text ∷ []) (Plain insert_version_text ∷ []) old c.create_reason.new.tx.conn.now
    c.insert_version.new.tx.conn.now c.insert_version.result r4 (c.insert_version.ensures.ran clean)
