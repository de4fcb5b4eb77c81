use Rattle.std.proofs.Common.{◌∙◌, ap}
use Rattle.std.specs.Ordering.{ordering_then}
use Rattle.std.specs.declared.cmp.Ordering.{Ordering}
use Rattle.feed_kbart.specs.declared.row_cells.RowCells.{RowCells}
use Rattle.cmd_report.specs.Ranking.{coverage_cmp, identifiers_cmp, row_of_cells}
use Rattle.cmd_report.proofs.order.By.compare_cells.Goals as goal

-- the order by identifiers after a first one
abbrev after : RowCells → RowCells → Ordering → Ordering
after one other first = ordering_then first (identifiers_cmp (row_of_cells one).identifiers (row_of_cells other).identifiers)

pub returns-in-Content : goal.returns-in-Content
returns-in-Content c =
    let one = c.args.one.now in
    let other = c.args.other.now in
    let first = c.then_coverage-first.ensures ∙ ap (λ texts. ordering_then texts (coverage_cmp (row_of_cells one) (row_of_cells other))) c.compare_texts.ensures in
    rw c.in-Content.is (c.then_identifiers.ensures ∙ ap (after one other) first)

pub returns-in-TitleId : goal.returns-in-TitleId
returns-in-TitleId c =
    rw c.in-TitleId.is (c.then_identifiers-in-TitleId.ensures ∙ ap (after c.args.one.now c.args.other.now) c.compare_title_ids.ensures)

pub returns-in-Url : goal.returns-in-Url
returns-in-Url c = rw c.in-Url.is (c.then_identifiers-in-Url.ensures ∙ ap (after c.args.one.now c.args.other.now) c.compare_urls.ensures)
