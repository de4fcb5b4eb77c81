use Rattle.std.proofs.Common.{sym, subst, ap, ◌∙◌}
use Rattle.std.specs.Option.{option_copied}
use Rattle.node_table.specs.Tables.{IsFirstBelow}
use Rattle.node_table.proofs.Firsts.{first_skips, first_stays, first_changes, first_begins}
use Rattle.node_table.proofs.table.Table.closed_first.Goals as goal

pub returns-in_default : goal.returns-in_default
returns-in_default g c = first_skips _ _ _ _ (sym c.get.ensures ∙ ap (λ slot. option_copied slot) c.in_default.is) c.requires

pub returns-then-not-is_closed_first : goal.returns-then-not-is_closed_first
returns-then-not-is_closed_first g c =
    first_stays _ _ _ _ _ _ (sym c.in-Some.ensures) (sym c.in-Some-get.ensures) (sym c.is_closed_first.ensures ∙ c.if-not-is_closed_first.true)
    (subst (λ first. IsFirstBelow c.args.shortage c.args.self.now c.args.key first) c.in-Some-first.is c.requires)

pub returns-else-not-is_closed_first : goal.returns-else-not-is_closed_first
returns-else-not-is_closed_first g c =
    first_changes _ _ _ _ _ _ (sym c.in-Some.ensures) (sym c.in-Some-get.ensures) (sym c.is_closed_first.ensures ∙ c.if-not-is_closed_first.false)
    (subst (λ first. IsFirstBelow c.args.shortage c.args.self.now c.args.key first) c.in-Some-first.is c.requires)

pub returns-in_default-first : goal.returns-in_default-first
returns-in_default-first g c =
    first_begins _ _ _ _ (sym c.in-Some.ensures) (subst (λ first. IsFirstBelow c.args.shortage c.args.self.now c.args.key first) c.in_default-first.is c.requires)
