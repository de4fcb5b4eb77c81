use Rattle.std.proofs.Common.{◌≡◌, ◌++◌, take}
use Rattle.node_templates.specs.Pages.{page_text}
use Rattle.node_pages.specs.TitlesPage.{title_cards}
use Rattle.node_pages.proofs.titles_page.put_title_cards.Given as goal

abbrev pub invariant-loop-entry : goal.invariant-loop-entry
invariant-loop-entry l = l.out.items ≡ l.fn.out.items ++ page_text l.site (title_cards l.site (take l.entry-index l.found))
