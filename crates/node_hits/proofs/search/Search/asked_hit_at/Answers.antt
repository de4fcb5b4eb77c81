use Rattle.std.proofs.Common.{◌≡◌, ◌∙◌, ap, sym}
use Rattle.node_hits.specs.Searches.{SearchValue, asked_hit_at, compared_as}
use Rattle.node_hits.specs.declared.search.Scope.{Scope}
use Rattle.node_hits.specs.declared.search.Scope.TheVariants as scope
use Rattle.node_hits.proofs.search.Search.asked_hit_at.Goals as goal

pub returns-in-Others : goal.returns-in-Others
returns-in-Others c =
    let search = c.args.self.now in
    let same : search.scope ≡ scope.Others = ap (λ (s : SearchValue). s.scope) (sym c.self.view_is) ∙ c.in-Others.is in
    c.title_at.ensures search.query
    ∙ ap (λ (s : Scope). asked_hit_at (compared_as s search.query) c.args.rows.now c.args.place) (sym same)
