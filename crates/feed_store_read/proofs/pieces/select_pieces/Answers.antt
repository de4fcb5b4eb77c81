use Rattle.std.proofs.Common.{◌≢◌, ◌∙◌, ap, refl, Ok, All, List}
use Rattle.sqlite_value.specs.Order.{Row}
use Rattle.sqlite.specs.Held.{state}
use Rattle.sqlite_rules.proofs.ListLemmas.{all_has}
use Rattle.feed_names.specs.ReleaseName.{text_of}
use Rattle.feed_keep.specs.Shown.{shown}
use Rattle.feed_keep.specs.declared.record.Record.{Record}
use Rattle.feed_store_model.specs.Tables.{IsPieceRow, HoldsReleases, text_in}
use Rattle.feed_store_model.proofs.Ours.{tables_in}
use Rattle.feed_store_read.specs.Texts.{pieces_text}
use Rattle.feed_store_read.specs.Pieces.{ShowPieces}
use Rattle.feed_store_read.specs.Releases.{AreReleases}
use Rattle.feed_store_read.proofs.Answers.{pieces_read}
use Rattle.feed_store_read.proofs.GivenRows.{pieces_none}
use Rattle.feed_store_read.proofs.Parents.{no_orphan}
use Rattle.feed_store_read.proofs.Streams.{begun_way, ended_all, ended_leaves, ended_row, next_way, refused_leaves, way_leaves}
use Rattle.feed_store_read.proofs.Selected.{are_pieces, given_stands}
use Rattle.feed_store_read.proofs.pieces.select_pieces.Goals as goal

pub rows-init : goal.rows-init
rows-init g c =
    let made = c.in_ok-rows.ensures in
    let start = shown c.args.found.now.records.items in
    let Known : List Row → Type 0 = λ rows. ShowPieces rows c.new-ids.result.items start start in record {
      way = begun_way g.S.Store pieces_text Known c.args.conn.now c.in_ok-rows.rows pieces_read made.begun made.mode
          made.survives.clean made.survives.limit (pieces_none _ _ c.new-ids.ensures.items);
      ids = refl;
      names = refl;
    }

pub rows-preserved : goal.rows-preserved
rows-preserved g c =
    let start = shown c.args.found.now.records.items in
    let More : List Row → Type 0 = λ rows. ShowPieces rows c.take_piece.new.ids.items start (shown c.take_piece.new.records.items) in record {
      way = next_way c.rows.invariant.way c.next.follows.holds-at-none More c.in-Some.row (c.in_ok-row.was ∙ ap Ok c.in-Some.is)
          (λ rows known. (rw c.if-not-branch.false at c.in_ok-take_piece.ensures.taken) rows start known);
      ids = c.rows.invariant.ids;
      names = c.take_piece.ensures.names ∙ c.rows.invariant.names;
    }

pub returns-in_err-rows-clause-leaves : goal.returns-in_err-rows-clause-leaves
returns-in_err-rows-clause-leaves g c =
    refused_leaves g.S.Store pieces_text c.args.conn.now c.query.follows.lender-at-none c.query.result _ c.in_err-rows.was c.query.follows.holds-at-none

pub returns-in_err-row-clause-leaves : goal.returns-in_err-row-clause-leaves
returns-in_err-row-clause-leaves g c = ended_leaves c.rows.invariant.way c.next.follows.holds-at-none c.in_ok-rows.ensures.same_reference c.conn-in_err-row-1.given c.drop-rows.ensures

pub returns-in_default-clause-leaves : goal.returns-in_default-clause-leaves
returns-in_default-clause-leaves g c = ended_leaves c.rows.invariant.way c.next.follows.holds-at-none c.in_ok-rows.ensures.same_reference c.conn-in_default-1.given c.drop-rows-in_default.ensures

pub returns-in_default-clause-read : goal.returns-in_default-clause-read
returns-in_default-clause-read g c live tabled =
    ended_all c.rows.invariant.way c.next.follows.holds-at-none c.in_ok-rows.ensures.same_reference c.conn-in_default-1.given c.drop-rows-in_default.ensures
    (c.in_ok-row.was ∙ ap Ok c.in_default.is) live
    (λ it. are_pieces (state g.S.Store c.args.conn.now) (state g.S.Store c.rows.rows.conn.now) (state g.S.Store c.next.follows.lender-at-none.conn.now)
    it.rows _ _ _ (tables_in (state g.S.Store c.args.conn.now).now tabled) it.early it.whole it.known)

pub returns-in_err-take_piece-clause-leaves : goal.returns-in_err-take_piece-clause-leaves
returns-in_err-take_piece-clause-leaves g c =
    ended_leaves c.rows.invariant.way c.next.follows.holds-at-none c.in_ok-rows.ensures.same_reference c.conn-in_err-take_piece-1.given c.drop-rows-in_err-take_piece.ensures

pub returns-then-not-branch-clause-leaves : goal.returns-then-not-branch-clause-leaves
returns-then-not-branch-clause-leaves g c =
    ended_leaves c.rows.invariant.way c.next.follows.holds-at-none c.in_ok-rows.ensures.same_reference c.conn-then-not-branch-1.given c.drop-rows-then-not-branch.ensures

pub returns-then-not-branch-clause-read : goal.returns-then-not-branch-clause-read
returns-then-not-branch-clause-read g c live tabled =
    let old = state g.S.Store c.args.conn.now in
    let ours = tables_in old.now tabled in
    let now = c.next.follows.lender-at-none.conn.now in
    let row = c.in-Some.row.now in
    let it = ended_row c.rows.invariant.way c.next.follows.holds-at-none c.in_ok-rows.ensures.same_reference c.conn-then-not-branch-1.given c.drop-rows-then-not-branch.ensures
    c.in-Some.row (c.in_ok-row.was ∙ ap Ok c.in-Some.is) live in
    let refused : IsPieceRow row → All {X = Record} (λ r. text_of r.name ≢ text_in row) c.rows.found.records.items = rw c.if-not-branch.true at c.in_ok-take_piece.ensures.taken in
    let here = given_stands g.S.Store c.args.conn.now now it.0.front row ours it.0.same it.0.given in
    let none : AreReleases old.now c.args.found.now → ¬ (HoldsReleases old.now) = λ releases are.
    no_orphan old.now c.args.found.now c.rows.found.records.items row ours are releases c.rows.invariant.names here (refused (all_has IsPieceRow (old.now.trees 3) row are.are_pieces here)) in
    (it.1, none)

pub returns-clause-leaves : goal.returns-clause-leaves
returns-clause-leaves g c = way_leaves c.rows.invariant.way c.in_ok-rows.ensures.same_reference c.conn-2-1.given c.drop-rows-2.ensures
