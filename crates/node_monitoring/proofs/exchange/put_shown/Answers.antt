use Rattle.std.proofs.lemmas.Result.{on_ok_weaker}
use Rattle.node_monitoring.proofs.Shown.{hidden, shown}
use Rattle.node_monitoring.proofs.exchange.put_shown.Goals as goal

pub returns-then-is_hidden : goal.returns-then-is_hidden
returns-then-is_hidden c = λ head has. hidden c.args.policy c.args.exchange.now c.args.site.now head c.args.out.now.items _ (c.is_hidden.ensures head has) c.if-is_hidden.true

pub returns : goal.returns
returns c = on_ok_weaker c.put_entry.result
    (λ written head has. shown c.args.policy c.args.exchange.now c.args.site.now head c.args.out.now.items c.put_entry.new.out.items _ (c.is_hidden.ensures head has) c.if-is_hidden.false
    (written head.fields (c.fields.ensures.fields head has))) c.put_entry.ensures
