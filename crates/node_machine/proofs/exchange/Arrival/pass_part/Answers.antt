use Rattle.std.proofs.Common.{rules, ◌≤◌, arith, refl}
use Rattle.node_machine.proofs.Exchanging.{passes_part}
use Rattle.node_machine.proofs.exchange.Arrival.pass_part.Goals as goal

pub returns : goal.returns
returns c events given announced h =
    let small : c.args.length ≤ 18446744073709551615 = search rules in
    passes_part events given c.args.self _ c.args.length 18446744073709551615 h announced small refl refl c.clear.ensures.items
    (λ fits. (let long = c.len.ensures in let sum = c.saturating_add.ensures in omega (arith, fits, long, sum)))
