use Rattle.std.proofs.Common.{◌≡◌, true, rules, arith, OnOk, subst}
use Rattle.std.proofs.lemmas.Result.{on_ok_weaker}
use Rattle.sqlite.specs.Held.{Held, state}
use Rattle.sqlite.specs.State.{HasCleanDisk}
use Rattle.feed_store_write.specs.Statements.{HaveRun, IsCommitted, creation}
use Rattle.feed_store_write.proofs.layout.create_tables.Goals as goal

pub returns-clause-ran : goal.returns-clause-ran
returns-clause-ran g c late =
    let mid = state g.S.Store c.create_all.new.tx.conn.now in
    let same : c.commit.new.self.0 ≡ c.conn-2-1.given.0 = search rules in
    let clean : HasCleanDisk (state g.S.Store c.commit.new.self.0) = search rules in
    let early : HasCleanDisk mid = omega (arith, c.commit.ensures.survives.clean) in
    let made : HaveRun g.S.Store creation (record c.args.conn.now { in_transaction = true }) c.create_all.new.tx.conn.now =
    subst (λ (h : Held _). HaveRun g.S.Store creation h c.create_all.new.tx.conn.now) c.transaction-tx.ensures.begun
    (c.in_ok-create_all.ensures.ran early) in
    subst (λ (h : Held _). OnOk c.commit.result (IsCommitted g.S.Store creation c.args.conn.now h)) same
    (on_ok_weaker c.commit.result (λ done. (c.create_all.new.tx.conn.now, made, done.1.now_is)) (c.commit.ensures.ok clean))
