use Rattle.std.proofs.Common.{◌≡◌, ◌∙◌, [], ap, sym}
use Rattle.std.specs.List.{cons_option, slice_get}
use Rattle.std.proofs.lemmas.Result.{IfOk-weaker}
use Rattle.feed_answer.specs.QueryValue.{asked}
use Rattle.node_hits.specs.Merging.{merged, with_each}
use Rattle.node_hits.proofs.row_places.with_one.Goals as goal

pub returns-in-Some : goal.returns-in-Some
returns-in-Some c =
    let rows = c.args.holdings.now.rows in
    let all = c.args.all.items in
    IfOk-weaker c.merge_places.result (λ places. places.items ≡ merged c.args.limit all c.with_identifier.result.now)
    (λ more. more.items ≡ with_each c.args.limit rows all (cons_option (slice_get (asked c.args.query.now) c.args.place) []))
    (λ _ is.
    is ∙ ap (merged c.args.limit all) c.with_identifier.ensures
    ∙ ap (λ o. with_each c.args.limit rows all (cons_option o [])) (sym c.in-Some.is ∙ c.identifier.ensures)) c.merge_places.ensures

pub returns-in-None : goal.returns-in-None
returns-in-None c =
    ap (λ o. with_each c.args.limit c.args.holdings.now.rows c.args.all.items (cons_option o [])) (sym c.in-None.is ∙ c.identifier.ensures)
