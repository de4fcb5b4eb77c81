use Rattle.std.proofs.Common.{◌≡◌, true, false, sym, subst, ap, ◌∙◌}
use Rattle.sqlite.specs.Effect.{Database}
use Rattle.sqlite.specs.Held.{state}
use Rattle.feed_model.specs.Content.{names}
use Rattle.feed_keep.specs.Shown.{shown}
use Rattle.feed_store_model.specs.Tables.{IsTabled}
use Rattle.feed_store_model.proofs.Ours.{tables_in}
use Rattle.feed_keep.specs.CheckOrder.{AreNamesAscending}
use Rattle.feed_store_read.specs.Pieces.{ArePieces}
use Rattle.feed_store_read.proofs.Joined.{names_up}
use Rattle.feed_store_read.proofs.reading.select_all.Goals as goal

pub returns-then-not-are_names_ascending-clause-read : goal.returns-then-not-are_names_ascending-clause-read
returns-then-not-are_names_ascending-clause-read g c live ours are =
    let db = (state g.S.Store c.args.conn.now).now in
    let has = tables_in db ours in
    let read = rw c.in-Some.is at (c.in_ok-found.ensures.read live ours) in
    let up = names_up db c.in-Some.found has are read.1 in
    let yes = c.are_names_ascending.ensures.1 (subst (λ rs. AreNamesAscending (names (shown rs))) (sym c.deref.ensures.value) up) in
    absurd (let g : true ≡ false = sym yes ∙ c.if-not-are_names_ascending.true in cc)

pub returns-clause-read : goal.returns-clause-read
returns-clause-read g c live ours =
    let mid = state g.S.Store c.select_releases.new.conn in
    let first = rw c.in-Some.is at (c.in_ok-found.ensures.read (c.in_ok-ids.ensures.leaves.live live) ours) in
    let same = first.0.0.now_is in
    let mine : IsTabled mid.now = subst IsTabled (sym same) ours in
    let second = rw c.in-Some-2.is at (c.in_ok-ids.ensures.read live mine) in record {
      start = c.in-Some.found;
      releases = first.1;
      numbers = ap (λ ids. ids.items) c.in_ok-ids.ensures.ids;
      pieces = subst (λ (db : Database). ArePieces db c.in-Some-2.ids.items (shown c.in-Some.found.records.items) (shown c.select_pieces.new.found.records.items)) same second.1;
    }
