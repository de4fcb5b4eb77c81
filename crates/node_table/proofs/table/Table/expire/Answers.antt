use Rattle.std.proofs.Common.{◌∙◌}
use Rattle.node_table.specs.declared.log.CloseCause.TheVariants.{TimedOut}
use Rattle.node_table.proofs.Records.{closed_none, closed_both, closed_removed, recorded_none}
use Rattle.node_table.proofs.Expired.{peer_there, never_both}
use Rattle.node_table.proofs.table.Table.expire.Goals as goal

pub returns-then-advance_clock_of-clause-closed : goal.returns-then-advance_clock_of-clause-closed
returns-then-advance_clock_of-clause-closed g c =
    let it = peer_there c.advance_clock_of.new.self c.args.key (c.advance_clock_of.ensures.there c.if-advance_clock_of.true) in
    closed_both g.L.Log.records TimedOut c.args.self.now c.advance_clock_of.new.self c.close.new.self c.args.log.now c.args.log.now c.close.new.log
    (closed_none g.L.Log.records TimedOut c.args.self.now c.advance_clock_of.new.self c.args.log.now c.args.log.now (recorded_none g.L.Log.records TimedOut c.args.log.now)
    c.advance_clock_of.ensures.size c.advance_clock_of.ensures.clients c.advance_clock_of.ensures.held)
    (closed_removed g.L.Log.records TimedOut c.args.key c.args.now c.advance_clock_of.new.self c.close.new.self c.args.log.now c.close.new.log it.0 it.1 (c.close.ensures.removed it.0 it.1))

pub returns-then-advance_clock_of-clause-others : goal.returns-then-advance_clock_of-clause-others
returns-then-advance_clock_of-clause-others g c = λ other differs.
    let it = peer_there c.advance_clock_of.new.self c.args.key (c.advance_clock_of.ensures.there c.if-advance_clock_of.true) in
    (c.close.ensures.removed it.0 it.1).others other differs ∙ c.advance_clock_of.ensures.others other differs

pub returns-then-advance_clock_of-clause-late : goal.returns-then-advance_clock_of-clause-late
returns-then-advance_clock_of-clause-late g c = λ peer is late.
    let it = peer_there c.advance_clock_of.new.self c.args.key (c.advance_clock_of.ensures.there c.if-advance_clock_of.true) in
    (c.close.ensures.removed it.0 it.1).gone

pub returns-then-advance_clock_of-clause-elapsed : goal.returns-then-advance_clock_of-clause-elapsed
returns-then-advance_clock_of-clause-elapsed g c = λ peer is.
    let it = peer_there c.advance_clock_of.new.self c.args.key (c.advance_clock_of.ensures.there c.if-advance_clock_of.true) in
    absurd (never_both peer c.close.new.self c.args.key (c.close.ensures.removed it.0 it.1).gone is)

pub returns-then-advance_clock_of-clause-kept : goal.returns-then-advance_clock_of-clause-kept
returns-then-advance_clock_of-clause-kept g c = λ peer is in_time. absurd (in_time (c.advance_clock_of.ensures.late peer is c.if-advance_clock_of.true))

pub returns-else-advance_clock_of-clause-closed : goal.returns-else-advance_clock_of-clause-closed
returns-else-advance_clock_of-clause-closed g c =
    closed_none g.L.Log.records TimedOut c.args.self.now c.advance_clock_of.new.self c.args.log.now c.args.log.now (recorded_none g.L.Log.records TimedOut c.args.log.now)
    c.advance_clock_of.ensures.size c.advance_clock_of.ensures.clients c.advance_clock_of.ensures.held

pub returns-else-advance_clock_of-clause-late : goal.returns-else-advance_clock_of-clause-late
returns-else-advance_clock_of-clause-late g c = λ peer is late. absurd ((c.advance_clock_of.ensures.in_time peer is c.if-advance_clock_of.false).0 late)

pub returns-else-advance_clock_of-clause-kept : goal.returns-else-advance_clock_of-clause-kept
returns-else-advance_clock_of-clause-kept g c = λ peer is in_time. (c.advance_clock_of.ensures.in_time peer is c.if-advance_clock_of.false).1
