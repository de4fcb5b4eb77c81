use Rattle.std.proofs.Common.{◌∙◌, ap, refl, Ok}
use Rattle.sqlite.specs.Held.{state}
use Rattle.feed_store_model.specs.Tables.{HoldsReleases, IsReleaseRow}
use Rattle.feed_store_model.proofs.Ours.{tables_in}
use Rattle.feed_store_read.specs.Texts.{releases_text}
use Rattle.feed_store_read.specs.declared.releases.Releases.{Releases}
use Rattle.feed_store_read.specs.Releases.{ShowReleases}
use Rattle.feed_store_read.proofs.Answers.{releases_read}
use Rattle.feed_store_read.proofs.More.{show_none}
use Rattle.feed_store_read.proofs.Streams.{begun_way, ended_all, ended_leaves, ended_row, next_way, refused_leaves, way_leaves}
use Rattle.feed_store_read.proofs.Selected.{are_releases, given_listed}
use Rattle.feed_store_read.proofs.releases.select_releases.Goals as goal

pub rows-init : goal.rows-init
rows-init g c =
    let made = c.in_ok-rows.ensures in
    let none : Releases = record { ids = c.new.result; records = c.new-2.result } in
    begun_way g.S.Store releases_text (λ rows. ShowReleases rows none) c.args.conn.now c.in_ok-rows.rows releases_read made.begun made.mode
    made.survives.clean made.survives.limit (show_none _ c.new.ensures.items c.new-2.ensures.items)

pub rows-preserved : goal.rows-preserved
rows-preserved g c =
    next_way c.rows.invariant c.next.follows.holds-at-none (λ rows. ShowReleases rows c.take_release.new.found) c.in-Some.row (c.in_ok-row.was ∙ ap Ok c.in-Some.is)
    (rw c.if-not-branch.false at c.in_ok-take_release.ensures)

pub returns-in_err-rows-clause-leaves : goal.returns-in_err-rows-clause-leaves
returns-in_err-rows-clause-leaves g c =
    refused_leaves g.S.Store releases_text c.args.conn.now c.query.follows.lender-at-none c.query.result _ c.in_err-rows.was c.query.follows.holds-at-none

pub returns-in_err-row-clause-leaves : goal.returns-in_err-row-clause-leaves
returns-in_err-row-clause-leaves g c = ended_leaves c.rows.invariant c.next.follows.holds-at-none c.in_ok-rows.ensures.same_reference c.conn-in_err-row-1.given c.drop-rows.ensures

pub returns-in_default-clause-leaves : goal.returns-in_default-clause-leaves
returns-in_default-clause-leaves g c = ended_leaves c.rows.invariant c.next.follows.holds-at-none c.in_ok-rows.ensures.same_reference c.conn-in_default-1.given c.drop-rows-in_default.ensures

pub returns-in_err-take_release-clause-leaves : goal.returns-in_err-take_release-clause-leaves
returns-in_err-take_release-clause-leaves g c =
    ended_leaves c.rows.invariant c.next.follows.holds-at-none c.in_ok-rows.ensures.same_reference c.conn-in_err-take_release-1.given c.drop-rows-in_err-take_release.ensures

pub returns-then-not-branch-clause-leaves : goal.returns-then-not-branch-clause-leaves
returns-then-not-branch-clause-leaves g c =
    ended_leaves c.rows.invariant c.next.follows.holds-at-none c.in_ok-rows.ensures.same_reference c.conn-then-not-branch-1.given c.drop-rows-then-not-branch.ensures

pub returns-clause-leaves : goal.returns-clause-leaves
returns-clause-leaves g c = way_leaves c.rows.invariant c.in_ok-rows.ensures.same_reference c.conn-2-1.given c.drop-rows-2.ensures

pub returns-in_default-clause-read : goal.returns-in_default-clause-read
returns-in_default-clause-read g c live tabled =
    ended_all c.rows.invariant c.next.follows.holds-at-none c.in_ok-rows.ensures.same_reference c.conn-in_default-1.given c.drop-rows-in_default.ensures
    (c.in_ok-row.was ∙ ap Ok c.in_default.is) live
    (λ it. are_releases (state g.S.Store c.args.conn.now) (state g.S.Store c.rows.rows.conn.now) (state g.S.Store c.next.follows.lender-at-none.conn.now)
    it.rows c.rows.found (tables_in (state g.S.Store c.args.conn.now).now tabled) it.early it.whole it.known)

pub returns-then-not-branch-clause-read : goal.returns-then-not-branch-clause-read
returns-then-not-branch-clause-read g c live tabled =
    let old = state g.S.Store c.args.conn.now in
    let ours = tables_in old.now tabled in
    let now = c.next.follows.lender-at-none.conn.now in
    let it = ended_row c.rows.invariant c.next.follows.holds-at-none c.in_ok-rows.ensures.same_reference c.conn-then-not-branch-1.given c.drop-rows-then-not-branch.ensures
    c.in-Some.row (c.in_ok-row.was ∙ ap Ok c.in-Some.is) live in
    let no : ¬ (IsReleaseRow c.in-Some.row.now) = rw c.if-not-branch.true at c.in_ok-take_release.ensures in
    let none : ¬ (HoldsReleases old.now) = λ are. no (given_listed g.S.Store c.args.conn.now now it.0.front c.in-Some.row.now ours it.0.same it.0.given are) in
    (it.1, none)
