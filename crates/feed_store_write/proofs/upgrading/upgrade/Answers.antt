use Rattle.std.proofs.Common.{◌≡◌, true, rules, arith, OnOk, subst}
use Rattle.std.proofs.lemmas.Result.{on_ok_weaker}
use Rattle.sqlite.specs.Held.{Held, state}
use Rattle.sqlite.specs.State.{HasCleanDisk}
use Rattle.feed_keep.specs.Shown.{shown}
use Rattle.feed_store_write.specs.Statements.{HaveRun, IsCommitted, upgrading}
use Rattle.feed_store_write.proofs.upgrading.upgrade.Goals as goal

pub returns-clause-ran : goal.returns-clause-ran
returns-clause-ran g c late =
    let mid = state g.S.Store c.upgrade_tables.new.tx.conn.now in
    let same : c.commit.new.self.0 ≡ c.conn-2-1.given.0 = search rules in
    let clean : HasCleanDisk (state g.S.Store c.commit.new.self.0) = search rules in
    let early : HasCleanDisk mid = omega (arith, c.commit.ensures.survives.clean) in
    let made : HaveRun g.S.Store (upgrading (shown c.args.records.now)) (record c.args.conn.now { in_transaction = true }) c.upgrade_tables.new.tx.conn.now =
    subst (λ (h : Held _). HaveRun g.S.Store (upgrading (shown c.args.records.now)) h c.upgrade_tables.new.tx.conn.now) c.transaction-tx.ensures.begun
    (c.in_ok-upgrade_tables.ensures.ran early) in
    subst (λ (h : Held _). OnOk c.commit.result (IsCommitted g.S.Store (upgrading (shown c.args.records.now)) c.args.conn.now h)) same
    (on_ok_weaker c.commit.result (λ done. (c.upgrade_tables.new.tx.conn.now, made, done.1.now_is)) (c.commit.ensures.ok clean))
