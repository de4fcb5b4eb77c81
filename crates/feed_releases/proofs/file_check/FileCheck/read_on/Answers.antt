use Rattle.std.proofs.Common.{arith, length-take}
use Rattle.feed_releases.proofs.ReadAhead.{if_some, no_bytes, run_take, some_run}
use Rattle.feed_releases.proofs.file_check.FileCheck.read_on.Goals as goal

pub returns-clause-few : goal.returns-clause-few
returns-clause-few c = if_some c.take_in.result _ _ c.take_in.ensures.place
    (λ running is. omega (arith, is, c.min-count.ensures, length-take c.min-count.result c.bytes_from-bytes.result.now))

pub returns-clause-some : goal.returns-clause-some
returns-clause-some c = if_some c.take_in.result _ _ c.take_in.ensures.place (λ running is some.
    let run = some_run c.args.kept.now.parts c.args.self.next c.bytes_from-bytes.result.now c.bytes_from-bytes.ensures.missing some in
    omega (arith, is, run, c.min-count.ensures, length-take c.min-count.result c.bytes_from-bytes.result.now))

pub returns-clause-reads : goal.returns-clause-reads
returns-clause-reads c = if_some c.take_in.result _ _ c.take_in.ensures.reads (λ running goes was.
    goes c.args.kept.now.parts was (run_take c.args.kept.now.parts c.args.self.next c.min-count.result c.bytes_from-bytes.result.now c.bytes_from-bytes.ensures.stored))

pub returns-clause-none : goal.returns-clause-none
returns-clause-none c = if_some c.take_in.result _ _ c.take_in.ensures.place (λ running is none.
    let run = no_bytes c.args.kept.now.parts c.args.self.next c.bytes_from-bytes.result.now c.bytes_from-bytes.ensures.stored none in
    omega (arith, is, run, c.min-count.ensures, length-take c.min-count.result c.bytes_from-bytes.result.now))
