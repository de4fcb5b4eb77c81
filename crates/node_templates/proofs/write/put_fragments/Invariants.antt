use Rattle.std.proofs.Common.{◌≡◌, ◌++◌, take}
use Rattle.node_templates.specs.Pages.{fragments_text}
use Rattle.node_templates.specs.Plain.{plain_fragments}
use Rattle.node_templates.specs.Values.{plain}
use Rattle.node_templates.proofs.write.put_fragments.Given as goal

abbrev pub invariant-loop-html : goal.invariant-loop-html
invariant-loop-html l = l.out.items ≡ l.fn.out.items ++ fragments_text l.site (plain l.values) (plain_fragments (take l.html-index l.fragments))
