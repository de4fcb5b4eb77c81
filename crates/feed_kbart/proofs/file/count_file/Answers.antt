use Rattle.std.proofs.Common.{arith}
use Rattle.feed_kbart.proofs.Steps.{if_some}
use Rattle.feed_kbart.proofs.Tabled.{few_rows}
use Rattle.feed_kbart.proofs.file.count_file.Goals as goal

pub returns : goal.returns
returns g c =
    if_some (g.R.Read.remaining c.args.reader) _ (λ text is.
    let kept = rw is at c.in_ok-kept.ensures in
    (kept.0, kept.1, rw c.of.ensures (kept.2.0.1 (omega (arith, kept.0, few_rows text, kept.2.0.0))), rw c.of.ensures kept.2.1))
