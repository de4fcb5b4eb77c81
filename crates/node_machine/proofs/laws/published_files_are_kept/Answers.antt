use Rattle.node_machine.proofs.Feeds.{files_published}
use Rattle.node_machine.proofs.laws.published_files_are_kept.Goals as goal

pub returns : goal.returns
returns g c = files_published
