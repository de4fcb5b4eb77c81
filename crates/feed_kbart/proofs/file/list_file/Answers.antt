use Rattle.feed_kbart.specs.Store.{AreStored}
use Rattle.feed_kbart.proofs.Readings.{read_of_kept}
use Rattle.feed_kbart.proofs.Steps.{if_some}
use Rattle.feed_kbart.proofs.file.list_file.Goals as goal

pub returns : goal.returns
returns g c = if_some (g.R.Read.remaining c.args.reader) _ (λ text is. read_of_kept AreStored text c.in_ok-kept.kept _ (rw is at c.in_ok-kept.ensures) c.in_ok-of.ensures)
