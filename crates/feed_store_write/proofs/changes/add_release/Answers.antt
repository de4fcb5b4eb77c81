use Rattle.std.proofs.Common.{◌≡◌, ◌≢◌, ◌==◌, false, rules, arith}
use Rattle.std.proofs.lemmas.Result.{on_ok_weaker}
use Rattle.std.proofs.lemmas.Bool.Decides.{nat_tests}
use Rattle.sqlite.specs.Held.{state}
use Rattle.feed_store_write.proofs.Inside.{nothing_done}
use Rattle.feed_store_write.proofs.Sequence.{staged_made}
use Rattle.feed_store_write.proofs.changes.add_release.Goals as goal

pub returns-clause-made : goal.returns-clause-made
returns-clause-made g c clean =
    let n = c.args.name.now in
    let old = state g.S.Store c.args.tx.now.conn.now in
    let new = state g.S.Store c.insert_release.new.tx.conn.now in
    let short : c.in-Ok.short ≡ c.args.size = search rules in
    let some : c.args.size ≢ 0 = omega (arith, c.if-size-eq0.false) in
    on_ok_weaker c.insert_release.result (staged_made n c.args.size old new some) (rw short at (c.insert_release.ensures.made clean))

pub returns-in_default-clause-inside : goal.returns-in_default-clause-inside
returns-in_default-clause-inside g c = nothing_done

pub returns-clause-ran : goal.returns-clause-ran
returns-clause-ran g c clean =
    let short : c.in-Ok.short ≡ c.args.size = search rules in
    let some : (c.args.size == 0) ≡ false = grind (arith, nat_tests, c.if-size-eq0.false) in
    rw some (rw short at (c.insert_release.ensures.ran clean))
