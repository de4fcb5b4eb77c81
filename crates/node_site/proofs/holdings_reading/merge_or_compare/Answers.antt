use Rattle.std.proofs.Common.{ap, arith, length}
use Rattle.node_site.proofs.HoldingsSteps.{begun, few_begun, few_left, first_two, only_one}
use Rattle.node_site.proofs.holdings_reading.merge_or_compare.Goals.{in-Some, in-None}
use Rattle.node_site.proofs.holdings_reading.merge_or_compare.Goals as goal

pub returns-then-len-lt2-clause-less : goal.returns-then-len-lt2-clause-less
returns-then-len-lt2-clause-less c =
    let text = c.args.text.now in
    let runs = c.args.runs.items in
    elim c.match-pop.branch [
      | in-Some w ↦
          let is = only_one runs c.pop.new.self.items w.in-Some.entries (omega arith) w.in-Some.ensures.items in
          rw w.result-is (few_left text runs w.in-Some.entries c.requires.headed c.requires.runs is)
      | in-None w ↦ rw w.result-is (omega (arith, ap length w.new-in-None.ensures.items))
    ]

pub returns-in-Ok-clause-is : goal.returns-in-Ok-clause-is
returns-in-Ok-clause-is c =
    let text = c.args.text.now in
    let rest = c.take_two-left.new.runs.items in
    let left = c.take_two-left.result.0 in
    let right = c.take_two-left.result.1 in
    let up = first_two c.args.runs.items rest left right text c.requires.runs c.take_two-left.ensures in
    begun text c.args.runs.items rest left right c.in-Ok.merge c.requires.runs c.take_two-left.ensures (c.in-Ok.ensures.is text up.0 up.1) c.in-Ok.ensures.same

pub returns-in-Ok-clause-less : goal.returns-in-Ok-clause-less
returns-in-Ok-clause-less c =
    few_begun c.args.text.now c.args.runs.items c.take_two-left.new.runs.items c.take_two-left.result.0 c.take_two-left.result.1 c.in-Ok.merge
    c.requires.headed c.requires.runs c.take_two-left.ensures c.in-Ok.ensures.left
