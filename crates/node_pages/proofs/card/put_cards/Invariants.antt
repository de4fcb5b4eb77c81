use Rattle.std.proofs.Common.{◌≡◌, ◌++◌, take}
use Rattle.node_templates.specs.Pages.{page_text}
use Rattle.node_pages.specs.Cards.{cards}
use Rattle.node_pages.proofs.card.put_cards.Given as goal

abbrev pub invariant-loop-row : goal.invariant-loop-row
invariant-loop-row l = l.out.items ≡ l.fn.out.items ++ page_text l.site (cards l.site l.cited l.fit (take l.row-index l.rows))
