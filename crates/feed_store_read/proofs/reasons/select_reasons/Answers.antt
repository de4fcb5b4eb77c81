use Rattle.std.proofs.Common.{◌≡◌, ◌≢◌, ◌∙◌, ap, refl, Ok, All, List}
use Rattle.sqlite_value.specs.Order.{Row}
use Rattle.sqlite.specs.Held.{state}
use Rattle.sqlite_rules.proofs.ListLemmas.{all_has}
use Rattle.feed_names.specs.ReleaseName.{text_of}
use Rattle.feed_model.specs.Content.{names}
use Rattle.feed_keep.specs.Shown.{shown}
use Rattle.feed_keep.specs.declared.record.Record.{Record}
use Rattle.feed_store_model.specs.Tables.{IsReasonRow, HoldsRecords, content_without_reasons, text_in}
use Rattle.feed_store_read.specs.Texts.{reasons_text}
use Rattle.feed_store_read.specs.Reasons.{ShowReasons}
use Rattle.feed_store_read.proofs.ReasonAnswers.{are_reasons, given_reason, no_lone_reason, reasons_read}
use Rattle.feed_store_read.proofs.GivenReasons.{reasons_none}
use Rattle.feed_store_read.proofs.Streams.{begun_way, ended_all, ended_leaves, ended_row, next_way, refused_leaves, way_leaves}
use Rattle.feed_store_read.proofs.reasons.select_reasons.Goals as goal

pub rows-init : goal.rows-init
rows-init g c =
    let made = c.in_ok-rows.ensures in
    let start = shown c.args.records.now.items in
    let Known : List Row → Type 0 = λ rows. ShowReasons rows c.new-ids.result.items start start in record {
      way = begun_way g.S.Store reasons_text Known c.args.conn.now c.in_ok-rows.rows reasons_read made.begun made.mode
          made.survives.clean made.survives.limit (reasons_none _ _ c.new-ids.ensures.items);
      names = refl;
      parts = refl;
    }

pub rows-preserved : goal.rows-preserved
rows-preserved g c =
    let start = shown c.args.records.now.items in
    let More : List Row → Type 0 = λ rows. ShowReasons rows c.take_reason.new.ids.items start (shown c.take_reason.new.records.items) in record {
      way = next_way c.rows.invariant.way c.next.follows.holds-at-none More c.in-Some.row (c.in_ok-row.was ∙ ap Ok c.in-Some.is)
          (λ rows known. (rw c.if-not-branch.false at c.in_ok-take_reason.ensures.taken) rows start known);
      names = c.take_reason.ensures.names ∙ c.rows.invariant.names;
      parts = c.take_reason.ensures.parts ∙ c.rows.invariant.parts;
    }

pub returns-in_err-rows-clause-leaves : goal.returns-in_err-rows-clause-leaves
returns-in_err-rows-clause-leaves g c =
    refused_leaves g.S.Store reasons_text c.args.conn.now c.query.follows.lender-at-none c.query.result _ c.in_err-rows.was c.query.follows.holds-at-none

pub returns-in_err-row-clause-leaves : goal.returns-in_err-row-clause-leaves
returns-in_err-row-clause-leaves g c = ended_leaves c.rows.invariant.way c.next.follows.holds-at-none c.in_ok-rows.ensures.same_reference c.conn-in_err-row-1.given c.drop-rows.ensures

pub returns-in_default-clause-leaves : goal.returns-in_default-clause-leaves
returns-in_default-clause-leaves g c = ended_leaves c.rows.invariant.way c.next.follows.holds-at-none c.in_ok-rows.ensures.same_reference c.conn-in_default-1.given c.drop-rows-in_default.ensures

pub returns-in_default-clause-read : goal.returns-in_default-clause-read
returns-in_default-clause-read g c live ours =
    ended_all c.rows.invariant.way c.next.follows.holds-at-none c.in_ok-rows.ensures.same_reference c.conn-in_default-1.given c.drop-rows-in_default.ensures
    (c.in_ok-row.was ∙ ap Ok c.in_default.is) live
    (λ it. are_reasons (state g.S.Store c.args.conn.now) (state g.S.Store c.rows.rows.conn.now) (state g.S.Store c.next.follows.lender-at-none.conn.now)
    it.rows _ _ _ ours it.early it.whole it.known)

pub returns-in_err-take_reason-clause-leaves : goal.returns-in_err-take_reason-clause-leaves
returns-in_err-take_reason-clause-leaves g c =
    ended_leaves c.rows.invariant.way c.next.follows.holds-at-none c.in_ok-rows.ensures.same_reference c.conn-in_err-take_reason-1.given c.drop-rows-in_err-take_reason.ensures

pub returns-then-not-branch-clause-leaves : goal.returns-then-not-branch-clause-leaves
returns-then-not-branch-clause-leaves g c =
    ended_leaves c.rows.invariant.way c.next.follows.holds-at-none c.in_ok-rows.ensures.same_reference c.conn-then-not-branch-1.given c.drop-rows-then-not-branch.ensures

pub returns-then-not-branch-clause-read : goal.returns-then-not-branch-clause-read
returns-then-not-branch-clause-read g c live ours =
    let old = state g.S.Store c.args.conn.now in
    let now = c.next.follows.lender-at-none.conn.now in
    let row = c.in-Some.row.now in
    let it = ended_row c.rows.invariant.way c.next.follows.holds-at-none c.in_ok-rows.ensures.same_reference c.conn-then-not-branch-1.given c.drop-rows-then-not-branch.ensures
    c.in-Some.row (c.in_ok-row.was ∙ ap Ok c.in-Some.is) live in
    let refused : IsReasonRow row → All {X = Record} (λ r. text_of r.name ≢ text_in row) c.rows.records.items = rw c.if-not-branch.true at c.in_ok-take_reason.ensures.taken in
    let here = given_reason g.S.Store c.args.conn.now now it.0.front row ours it.0.same it.0.given in
    let none : shown c.args.records.now.items ≡ content_without_reasons old.now → ¬ (HoldsRecords old.now) = λ content are.
    no_lone_reason old.now c.rows.records.items row ours are (c.rows.invariant.names ∙ ap names content) here (refused (all_has IsReasonRow (old.now.trees 5) row are.reasons.are here)) in
    (it.1, none)

pub returns-clause-leaves : goal.returns-clause-leaves
returns-clause-leaves g c = way_leaves c.rows.invariant.way c.in_ok-rows.ensures.same_reference c.conn-2-1.given c.drop-rows-2.ensures
