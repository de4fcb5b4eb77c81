use Rattle.std.proofs.Common.{◌≡◌, ◌++◌, take}
use Rattle.node_templates.specs.Pages.{page_text, with_values}
use Rattle.node_templates.specs.Values.{plain}
use Rattle.node_templates.proofs.write.put_page.Given as goal

abbrev pub invariant-loop-template : goal.invariant-loop-template
invariant-loop-template l = l.out.items ≡ l.fn.out.items ++ page_text l.site (with_values (plain l.values) (take l.template-index l.templates))
