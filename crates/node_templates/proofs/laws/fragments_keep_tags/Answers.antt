use Rattle.node_templates.proofs.Keeping.{parts_have_tags}
use Rattle.node_templates.specs.Tags.{OtherPage}
use Rattle.node_templates.proofs.laws.fragments_keep_tags.Goals as goal

pub returns : goal.returns
returns c = parts_have_tags OtherPage
