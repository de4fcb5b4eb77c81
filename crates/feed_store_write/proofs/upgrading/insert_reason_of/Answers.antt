use Rattle.sqlite.specs.Held.{state}
use Rattle.feed_store_write.proofs.Inside.{nothing_done}
use Rattle.feed_store_write.proofs.Steps.{no_reason_made}
use Rattle.std.proofs.Common.{refl}
use Rattle.feed_store_write.proofs.upgrading.insert_reason_of.Goals as goal

pub returns-in-None-clause-made : goal.returns-in-None-clause-made
returns-in-None-clause-made g c clean = rw c.in-None.is (no_reason_made c.args.kept.now.name (state g.S.Store c.args.tx.now.conn.now))

pub returns-in-Some-clause-made : goal.returns-in-Some-clause-made
returns-in-Some-clause-made g c clean = rw c.in-Some.is (c.insert_reason.ensures.made clean)

pub returns-in-None-clause-inside : goal.returns-in-None-clause-inside
returns-in-None-clause-inside g c = nothing_done

pub returns-in-None-clause-ran : goal.returns-in-None-clause-ran
returns-in-None-clause-ran g c clean = rw c.in-None.is refl

pub returns-in-Some-clause-ran : goal.returns-in-Some-clause-ran
returns-in-Some-clause-ran g c clean = rw c.in-Some.is (c.insert_reason.ensures.ran clean)
