use Rattle.std.proofs.Common.{sym, arith, ◌∙◌}
use Rattle.node_site.proofs.HoldingsOrder.{peace_more}
use Rattle.node_site.proofs.holdings_clash.clash_at.Goals as goal

pub returns-else-is_clash-clause-none : goal.returns-else-is_clash-clause-none
returns-else-is_clash-clause-none c so_far =
    peace_more c.args.text.now c.args.entries.now c.args.index (omega arith) c.requires.within so_far (sym c.is_clash.ensures ∙ c.if-is_clash.false)
