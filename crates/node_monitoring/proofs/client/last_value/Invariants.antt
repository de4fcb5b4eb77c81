use Rattle.std.proofs.Common.{◌≡◌, take}
use Rattle.node_monitoring.specs.Forwarded.{last_of}
use Rattle.node_monitoring.proofs.LastFields.{values_in}
use Rattle.node_monitoring.proofs.client.last_value.Given as goal

abbrev pub invariant-loop-header : goal.invariant-loop-header
invariant-loop-header l = l.value ≡ last_of (values_in l.fields.buffer.now l.name (take l.header-index l.fields.headers.now))
