use Rattle.std.proofs.Common.{ap, sym, ◌∙◌, drop, map}
use Rattle.std.specs.Prelude.{is_some}
use Rattle.node_titles.specs.Titles.{entry_of, is_found}
use Rattle.node_titles.specs.Walks.{WalkValue}
use Rattle.node_titles.proofs.Steps.{ended_stays}
use Rattle.node_titles.proofs.walk.Walk.look_at.Goals as goal

pub returns-then-is_some : goal.returns-then-is_some
returns-then-is_some c =
    sym (ended_stays (is_found c.args.site.now c.args.finder.now) c.loop-row.self
    (map (entry_of c.args.name.now) (drop c.loop-row.row-index c.args.rows.now))
    (ap (λ (w : WalkValue). is_some w.next) (sym c.self.view_is) ∙ sym c.is_some.ensures ∙ c.if-is_some.true))
    ∙ c.loop-row.invariant
