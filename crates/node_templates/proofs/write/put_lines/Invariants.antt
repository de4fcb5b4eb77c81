use Rattle.std.proofs.Common.{◌≡◌, ◌++◌, take}
use Rattle.node_templates.specs.Pages.{lines_text}
use Rattle.node_templates.specs.Plain.{plain_template}
use Rattle.node_templates.specs.Values.{plain}
use Rattle.node_templates.proofs.write.put_lines.Given as goal

abbrev pub invariant-loop-when : goal.invariant-loop-when
invariant-loop-when l = l.out.items ≡ l.fn.out.items ++ lines_text l.site (plain l.values) (plain_template (take l.when-index l.lines))
