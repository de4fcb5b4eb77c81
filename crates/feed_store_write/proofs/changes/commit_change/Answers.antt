use Rattle.std.proofs.Common.{◌≡◌, true, rules, arith, OnOk, sym, subst}
use Rattle.std.proofs.lemmas.Result.{on_ok_weaker}
use Rattle.sqlite.specs.Effect.{Database}
use Rattle.sqlite.specs.Held.{Held, state}
use Rattle.sqlite.specs.State.{HasCleanDisk}
use Rattle.feed_keep.specs.Shown.{shown_change}
use Rattle.feed_store_write.specs.Effects.{IsAllowedChange}
use Rattle.feed_store_write.specs.Statements.{HaveRun, IsCommitted, statements_of}
use Rattle.feed_store_write.proofs.changes.commit_change.Goals as goal

pub returns-clause-whole : goal.returns-clause-whole
returns-clause-whole g c live =
    let change = shown_change c.args.change.now in
    let old = state g.S.Store c.args.conn.now in
    let mid = state g.S.Store c.apply_change.new.tx.conn.now in
    let end = state g.S.Store c.commit.new.self.0 in
    let same : c.commit.new.self.0 ≡ c.conn-2-1.given.0 = search rules in
    let late : HasCleanDisk end = search rules in
    let early : HasCleanDisk mid = omega (arith, c.commit.ensures.survives.clean) in
    let made : IsAllowedChange change old.now mid.now =
    subst (λ (h : Held _). IsAllowedChange change (state g.S.Store h).now mid.now) c.transaction-tx.ensures.begun
    (c.in_ok-apply_change.ensures.made early).change in
    subst (λ (h : Held _). OnOk c.commit.result (IsAllowedChange change old.now (state g.S.Store h).now)) same
    (on_ok_weaker c.commit.result (λ done. subst (λ (db : Database). IsAllowedChange change old.now db) (sym done.1.now_is) made) (c.commit.ensures.ok late))

pub returns-clause-ran : goal.returns-clause-ran
returns-clause-ran g c late =
    let mid = state g.S.Store c.apply_change.new.tx.conn.now in
    let same : c.commit.new.self.0 ≡ c.conn-2-1.given.0 = search rules in
    let clean : HasCleanDisk (state g.S.Store c.commit.new.self.0) = search rules in
    let early : HasCleanDisk mid = omega (arith, c.commit.ensures.survives.clean) in
    let made : HaveRun g.S.Store (statements_of (shown_change c.args.change.now)) (record c.args.conn.now { in_transaction = true }) c.apply_change.new.tx.conn.now =
    subst (λ (h : Held _). HaveRun g.S.Store (statements_of (shown_change c.args.change.now)) h c.apply_change.new.tx.conn.now) c.transaction-tx.ensures.begun
    (c.in_ok-apply_change.ensures.ran early) in
    subst (λ (h : Held _). OnOk c.commit.result (IsCommitted g.S.Store (statements_of (shown_change c.args.change.now)) c.args.conn.now h)) same
    (on_ok_weaker c.commit.result (λ done. (c.apply_change.new.tx.conn.now, made, done.1.now_is)) (c.commit.ensures.ok clean))
