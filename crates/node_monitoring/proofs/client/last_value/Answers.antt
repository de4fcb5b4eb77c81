use Rattle.std.proofs.lemmas.List.{take_all}
use Rattle.node_monitoring.proofs.LastFields.{next_value, all_values}
use Rattle.node_monitoring.proofs.client.last_value.Goals as goal

pub loop-header-preserved : goal.loop-header-preserved
loop-header-preserved c = next_value c.args.fields.now.buffer.now c.args.name.now c.args.fields.now.headers.now c.loop-header.header-index _ _ _ c.loop-header-test.true
    c.loop-header.invariant c.value_or-value.ensures

pub returns : goal.returns
returns c = λ list are. all_values c.args.fields.now.buffer.now c.args.name.now c.args.fields.now.headers.now _ _ list
    (take_all c.loop-header.header-index c.args.fields.now.headers.now c.loop-header-test.false) c.loop-header.invariant are
