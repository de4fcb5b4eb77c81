use Rattle.std.proofs.Common.{◌≡◌, ◌++◌, take}
use Rattle.node_templates.specs.Pages.{page_text}
use Rattle.node_pages.specs.Ways.{way_items}
use Rattle.node_pages.proofs.ways.put_items.Given as goal

abbrev pub invariant-loop-link : goal.invariant-loop-link
invariant-loop-link l = l.out.items ≡ l.fn.out.items ++ page_text l.site (way_items (take l.link-index l.links))
