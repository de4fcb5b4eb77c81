use Rattle.feed_kbart.proofs.Readings.{read_of_held}
use Rattle.feed_kbart.proofs.Steps.{if_some}
use Rattle.feed_kbart.proofs.file.read_file.Goals as goal

pub returns : goal.returns
returns g c = if_some (g.R.Read.remaining c.args.reader) _ (λ text is. read_of_held text c.in_ok-kept.kept c.of.result (rw is at c.in_ok-kept.ensures) c.of.ensures)
