use Rattle.std.proofs.Common.{refl, ◌∙◌, sym}
use Rattle.node_machine.specs.Exchanges.{Received}
use Rattle.node_machine.proofs.Exchanging.{takes, fails}
use Rattle.node_machine.proofs.exchange.Arrival.receive.Goals as goal

pub returns-in-Ok-take : goal.returns-in-Ok-take
returns-in-Ok-take c events given h = let e = c.in-Ok-take.ensures in
    c.follow.ensures _ given (takes events given c.args.self h (Received c.args.bytes.now) c.args.bytes.now c.deref.result.now refl refl (c.deref.ensures.value ∙ c.in-Ok.ensures.items) _
    c.in-Ok-take.taken.count c.in-Ok-take.taken.is_over e.method refl (sym c.deref.ensures.value) e.stated (e.taken h.passed given h.at))

pub returns-in-Err : goal.returns-in-Err
returns-in-Err c events given h = let e = c.in-Err.ensures in
    fails events given c.args.self h (Received c.args.bytes.now) c.args.bytes.now c.deref.result.now refl refl (c.deref.ensures.value ∙ c.in-Ok.ensures.items) c.in-Err.fault e.shown
    (λ more. e.faults h.passed given h.at more)
