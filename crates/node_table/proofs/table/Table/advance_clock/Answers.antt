use Rattle.std.proofs.Common.{refl, arith}
use Rattle.node_table.specs.declared.log.CloseCause.TheVariants.{TimedOut}
use Rattle.node_table.proofs.Records.{closed_none, closed_both, recorded_none}
use Rattle.node_table.proofs.Expired.{expired_none, expired_more, expired_all, elapsed_all}
use Rattle.node_table.proofs.table.Table.advance_clock.Goals as goal

pub loop-key-init : goal.loop-key-init
loop-key-init g c = (
  closed_none g.L.Log.records TimedOut c.args.self.now c.args.self.now c.args.log.now c.args.log.now (recorded_none g.L.Log.records TimedOut c.args.log.now) refl refl refl,
  expired_none c.args.now c.args.self.now,
)

pub loop-key-preserved : goal.loop-key-preserved
loop-key-preserved g c = (
  closed_both g.L.Log.records TimedOut c.args.self.now c.loop-key.self c.expire.new.self c.args.log.now c.loop-key.log c.expire.new.log c.loop-key.invariant.0 c.expire.ensures.closed,
  expired_more c.loop-key.key c.args.now c.args.self.now c.loop-key.self c.expire.new.self c.loop-key.invariant.1 c.expire.ensures.others c.expire.ensures.late c.expire.ensures.kept
      c.expire.ensures.elapsed,
)

pub returns-clause-expired : goal.returns-clause-expired
returns-clause-expired g c =
    expired_all c.loop-key.key c.args.now c.args.self.now c.loop-key.self (omega (arith, c.capacity-key-end.ensures.slots)) c.loop-key.invariant.1

pub returns-clause-elapsed : goal.returns-clause-elapsed
returns-clause-elapsed g c =
    elapsed_all c.loop-key.key c.args.now c.args.self.now c.loop-key.self (omega (arith, c.capacity-key-end.ensures.slots)) c.loop-key.invariant.1
