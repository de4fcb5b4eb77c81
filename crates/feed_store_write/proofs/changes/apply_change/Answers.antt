use Rattle.std.proofs.lemmas.Result.{on_ok_weaker}
use Rattle.sqlite.specs.Held.{state}
use Rattle.feed_parts.specs.Shown.{shown_parts}
use Rattle.feed_store_write.proofs.Sequence.{pieces_made}
use Rattle.feed_store_write.proofs.changes.apply_change.Goals as goal

pub returns-in-Add-clause-made : goal.returns-in-Add-clause-made
returns-in-Add-clause-made g c clean = rw c.in-Add.is (c.add_release.ensures.made clean)

pub returns-in-Pieces-clause-made : goal.returns-in-Pieces-clause-made
returns-in-Pieces-clause-made g c clean =
    rw c.in-Pieces.is
    (on_ok_weaker c.insert_parts.result
    (pieces_made c.in-Pieces.name.now (shown_parts c.in-Pieces.parts.now) (state g.S.Store c.args.tx.now.conn.now)
    (state g.S.Store c.insert_parts.new.tx.conn.now))
    (c.insert_parts.ensures.made clean))

pub returns-in-Add-clause-ran : goal.returns-in-Add-clause-ran
returns-in-Add-clause-ran g c clean = rw c.in-Add.is (c.add_release.ensures.ran clean)

pub returns-in-Pieces-clause-ran : goal.returns-in-Pieces-clause-ran
returns-in-Pieces-clause-ran g c clean = rw c.in-Pieces.is (c.insert_parts.ensures.ran clean)
