use Rattle.std.proofs.Common.{List, ◌≡◌, refl, sym, ◌∙◌, ap, subst}
use Rattle.feed_world.specs.World.{Shelf, Stopped, IsDown, Refused, arriving}
use Rattle.feed_releases.specs.Events.{event_of}
use Rattle.feed_core.specs.Nodes.{shown_arrived}
use Rattle.feed_core.specs.Step.{IsNodeStep, stop_event}
use Rattle.feed_core.proofs.Steps.{away_stopped, step_ready, stop_shown, stop_fails, next}
use Rattle.feed_core.proofs.Counts.{account_set, account_stay, away_not, down_shown, opened_shown, stop_at_node, stop_conceals, stopped_not}
use Rattle.feed_core.proofs.step.stop_at.Goals as goal

pub returns-in-Err-clause-step : goal.returns-in-Err-clause-step
returns-in-Err-clause-step g c = λ chosen sent.
    away_stopped chosen g.N.Node c.args.nodes.now.items c.args.point c.args.node sent c.args.arrived c.in-Err.why
    (rw c.deref.ensures.value at c.in-Err.ensures.away)

pub returns-in-Err-clause-account : goal.returns-in-Err-clause-account
returns-in-Err-clause-account g c = λ other sent.
    account_stay g.N.Node.failed g.N.Node.loads (stop_event c.args.point c.args.node sent) (Refused c.in-Err.why) c.args.nodes.now.items
    (away_not g.N.Node.has_state c.args.nodes.now.items c.args.node c.args.arrived c.in-Err.why other (rw c.deref.ensures.value at c.in-Err.ensures.away)) refl

pub returns-in-Ok-stop_node-clause-step : goal.returns-in-Ok-stop_node-clause-step
returns-in-Ok-stop_node-clause-step g c = λ chosen sent.
    let ready = rw c.deref.ensures.value at c.in-Ok.ensures.ready in
    let r = c.in-Ok-stop_node.ensures in
    subst (λ (ys : List _). IsNodeStep chosen g.N.Node (λ (z : Shelf). arriving z sent ≡ shown_arrived c.args.arrived) (record { old = c.args.nodes.now.items; new = ys })
    (stop_event c.args.point c.args.node sent) Stopped) (sym r.now)
    (step_ready chosen g.N.Node (λ (z : Shelf). arriving z sent ≡ shown_arrived c.args.arrived) c.args.nodes.now.items c.in-Ok.ready.0 r.before r.after c.args.node
    (stop_event c.args.point c.args.node sent) Stopped ready.0 r.was (stop_at_node c.args.point c.args.node sent) r.was_clean
    (λ w y s at up k in_state.
    stop_shown g.N.Node.has_state (λ (z : Shelf). arriving z sent ≡ shown_arrived c.args.arrived) c.args.point c.args.node r.before r.after sent (event_of c.in-Ok.ready.1) w y at up
    (s ∙ ap shown_arrived ready.1) (r.holds.2 y.history k in_state)))

pub returns-in-Err-stop_node-clause-step : goal.returns-in-Err-stop_node-clause-step
returns-in-Err-stop_node-clause-step g c = λ chosen sent.
    let ready = rw c.deref.ensures.value at c.in-Ok.ensures.ready in
    let r = c.in-Err-stop_node.ensures in
    subst (λ (ys : List _). IsNodeStep chosen g.N.Node (λ (z : Shelf). arriving z sent ≡ shown_arrived c.args.arrived) (record { old = c.args.nodes.now.items; new = ys })
    (stop_event c.args.point c.args.node sent) (IsDown c.in-Err-stop_node.cause)) (sym r.now)
    (step_ready chosen g.N.Node (λ (z : Shelf). arriving z sent ≡ shown_arrived c.args.arrived) c.args.nodes.now.items c.in-Ok.ready.0 r.before r.after c.args.node
    (stop_event c.args.point c.args.node sent) (IsDown c.in-Err-stop_node.cause) ready.0 r.was (stop_at_node c.args.point c.args.node sent) r.was_clean
    (λ w y s at up k in_state.
    stop_fails g.N.Node.has_state (λ (z : Shelf). arriving z sent ≡ shown_arrived c.args.arrived) c.args.point c.args.node r.before r.after sent c.in-Err-stop_node.cause
    (event_of c.in-Ok.ready.1) w y at up
    (s ∙ ap shown_arrived ready.1) (r.holds.2 y.history k in_state)))

pub returns-in-Ok-stop_node-clause-account : goal.returns-in-Ok-stop_node-clause-account
returns-in-Ok-stop_node-clause-account g c = λ other sent.
    let ready = rw c.deref.ensures.value at c.in-Ok.ensures.ready in
    let r = c.in-Ok-stop_node.ensures in
    account_set g.N.Node.failed g.N.Node.loads (stop_event c.args.point c.args.node sent) Stopped c.args.nodes.now.items c.stop_node.new.nodes.items c.in-Ok.ready.0 c.args.node r.before r.after
    ready.0.within r.was r.now (next ready.0.number) (stop_at_node c.args.point c.args.node sent)
    (record { failures = opened_shown Stopped tt stopped_not (stop_conceals c.args.point c.args.node sent Stopped refl) r.holds.0; loaded = r.holds.1 })

pub returns-in-Err-stop_node-clause-account : goal.returns-in-Err-stop_node-clause-account
returns-in-Err-stop_node-clause-account g c = λ other sent.
    let ready = rw c.deref.ensures.value at c.in-Ok.ensures.ready in
    let r = c.in-Err-stop_node.ensures in
    let line = IsDown c.in-Err-stop_node.cause in
    account_set g.N.Node.failed g.N.Node.loads (stop_event c.args.point c.args.node sent) line c.args.nodes.now.items c.stop_node.new.nodes.items c.in-Ok.ready.0 c.args.node r.before r.after
    ready.0.within r.was r.now (next ready.0.number) (stop_at_node c.args.point c.args.node sent)
    (record { failures = down_shown c.in-Err-stop_node.cause (stop_conceals c.args.point c.args.node sent line refl) r.holds.0; loaded = r.holds.1 })
