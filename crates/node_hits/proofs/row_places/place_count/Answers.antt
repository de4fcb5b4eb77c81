use Rattle.std.proofs.Common.{◌∙◌, ap, arith, length, sym}
use Rattle.node_hits.proofs.Merged.{asked_alone}
use Rattle.node_hits.proofs.row_places.place_count.Goals as goal

pub returns-in-Some : goal.returns-in-Some
returns-in-Some c =
    let same = ap length (c.with_identifier.ensures ∙ asked_alone c.args.query.now c.in-Some.one c.args.holdings.now.rows (sym c.sole_identifier.ensures ∙ c.in-Some.is)) in
    omega (arith, same, c.min.ensures)
