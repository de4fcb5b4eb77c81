use Rattle.std.proofs.Common.{ap, ◌∙◌}
use Rattle.std.specs.Prelude.{fold}
use Rattle.node_titles.specs.Titles.{is_found}
use Rattle.node_titles.specs.Walks.{WalkValue, with_row}
use Rattle.node_titles.proofs.Steps.{before_all, rows_behind}
use Rattle.node_titles.proofs.walk.walk_from.Goals as goal

pub loop-active-init : goal.loop-active-init
loop-active-init c =
    ap (λ (w : WalkValue). fold (with_row (is_found c.args.site.now c.args.finder.now)) w (rows_behind c.args.start c.args.actives.now)) c.new-walk.ensures
    ∙ before_all (is_found c.args.site.now c.args.finder.now) c.args.start c.args.actives.now
