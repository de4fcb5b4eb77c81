use Rattle.std.proofs.Common.{◌∙◌, ap, sym, take}
use Rattle.node_hits.proofs.Merged.{asked_alone, asked_are}
use Rattle.node_hits.proofs.row_places.first_places.Goals as goal

pub returns-in-Some : goal.returns-in-Some
returns-in-Some c =
    c.front.ensures
    ∙ ap (take c.args.limit) (c.with_identifier.ensures ∙ asked_alone c.args.query.now c.in-Some.one c.args.holdings.now.rows (sym c.sole_identifier.ensures ∙ c.in-Some.is))

pub returns-in_ok-with_each-in-None : goal.returns-in_ok-with_each-in-None
returns-in_ok-with_each-in-None c = c.in_ok-with_each-in-None.ensures ∙ asked_are c.args.query.now c.args.limit c.args.holdings.now.rows
