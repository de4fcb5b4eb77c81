use Rattle.std.proofs.Common.{◌≡◌, ◌==◌, List, ℕ, IfErr, true, get_or, subst, sym, rules}
use Rattle.node_site.specs.HoldingsIndex.{IsFirstFault}
use Rattle.node_site.proofs.HoldingsRows.{behind_feed}
use Rattle.node_site.proofs.holdings_rows.add_next.Goals as goal

pub returns-clause-refused : goal.returns-clause-refused
returns-clause-refused c =
    let feed : (get_or c.args.text.now c.args.place 0 == 10) ≡ true = search rules in
    subst (λ (places : List ℕ). IfErr c.add_row.result (IsFirstFault c.args.text.now places)) (sym (behind_feed c.args.text.now c.args.place c.requires.within feed))
    c.add_row.ensures.refused
