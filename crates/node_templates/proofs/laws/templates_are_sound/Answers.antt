use Rattle.node_templates.proofs.Keeping.{are_all_sound}
use Rattle.node_templates.proofs.laws.templates_are_sound.Goals as goal

pub returns : goal.returns
returns c = are_all_sound
