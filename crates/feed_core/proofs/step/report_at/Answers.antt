use Rattle.std.proofs.Common.{◌≡◌, refl, Some, None, Option}
use Rattle.feed_names.specs.ReleaseName.{Name}
use Rattle.feed_model.specs.History.{Reports}
use Rattle.feed_world.specs.World.{Report, Active, Inactive, report_line}
use Rattle.feed_core.proofs.Steps.{away_asked, asks_ready}
use Rattle.feed_core.proofs.step.report_at.Goals as goal

pub returns-in-Err-clause-step : goal.returns-in-Err-clause-step
returns-in-Err-clause-step g c = λ chosen.
    away_asked chosen g.N.Node c.args.nodes.now c.args.node c.in-Err.why (Report c.args.node c.args.«package».now)
    (λ w line v x. (v ≡ w) × (o : Option Name) × Reports x.history c.args.«package».now o × (line ≡ report_line o)) refl (λ w line v h. h) c.in-Err.ensures.away

pub returns-in_ok-try_clone-in-Some-clause-step : goal.returns-in_ok-try_clone-in-Some-clause-step
returns-in_ok-try_clone-in-Some-clause-step g c = λ chosen.
    let ready = c.in-Ok.ensures.ready in
    rw c.in_ok-try_clone-in-Some.ensures (asks_ready chosen g.N.Node c.args.nodes.now c.in-Ok.ready.0 c.index-nodes-at.result c.args.node (Report c.args.node
    c.args.«package».now)
    (Active c.in-Some.name.now) ready.0 c.index-nodes-at.is refl
    (λ w y at up in_state. rw (at, up) (refl, (Some c.in-Some.name.now), c.in-Some.ensures y.history in_state, refl)))

pub returns-in-None-clause-step : goal.returns-in-None-clause-step
returns-in-None-clause-step g c = λ chosen.
    let ready = c.in-Ok.ensures.ready in
    asks_ready chosen g.N.Node c.args.nodes.now c.in-Ok.ready.0 c.index-nodes-at.result c.args.node (Report c.args.node c.args.«package».now) Inactive ready.0
    c.index-nodes-at.is refl
    (λ w y at up in_state. rw (at, up) (refl, None, c.in-None.ensures y.history in_state, refl))
