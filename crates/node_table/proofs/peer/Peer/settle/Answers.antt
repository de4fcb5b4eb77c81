use Rattle.std.proofs.Common.{refl}
use Rattle.node_table.specs.declared.log.CloseCause.TheVariants.{PeerClosed}
use Rattle.node_table.proofs.Records.{recorded_one}
use Rattle.node_table.proofs.peer.Peer.settle.Goals as goal

pub returns-in-Next-clause-recorded : goal.returns-in-Next-clause-recorded
returns-in-Next-clause-recorded g c = recorded_one g.L.Log.records PeerClosed _ 0 _ _ refl tt c.resume.ensures.recorded
