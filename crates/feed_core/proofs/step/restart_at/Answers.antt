use Rattle.std.proofs.Common.{List, subst, sym, ◌≡◌, ◌<◌, ◌⊎◌, length, refl, inl, inr, true, false, arith, rules}
use Rattle.feed_world.specs.World.{Restart, Restarted, IsDown, Refused}
use Rattle.feed_world.specs.declared.line.Why.TheVariants.{NoNode}
use Rattle.feed_core.specs.Step.{IsNodeStep}
use Rattle.feed_core.proofs.Steps.{none_at, step_set, step_not}
use Rattle.feed_core.proofs.Counts.{account_set, account_stay, down_shown, no_node_not, opened_shown, restarted_not}
use Rattle.feed_core.proofs.step.restart_at.Goals as goal

pub returns-in_default-clause-step : goal.returns-in_default-clause-step
returns-in_default-clause-step g c = λ chosen.
    let out : (c.args.node ≡ 0) ⊎ (length c.args.nodes.now.items < c.args.node) = search rules in
    step_not chosen g.N.Node (λ _. Unit {0}) c.args.nodes.now.items (Restart c.args.node) (Refused NoNode)
    (λ w s t a n. rw (none_at chosen g.N.Node.has_state c.args.nodes.now.items w.nodes c.args.node n out) (refl, refl))

pub returns-in-Ok-clause-step : goal.returns-in-Ok-clause-step
returns-in-Ok-clause-step g c = λ chosen.
    let lt : c.in-Some.at < length c.args.nodes.now.items = omega (arith, c.in-Some.ensures.found.1, c.len.ensures) in
    let r = c.in-Ok.ensures in
    subst (λ (ys : List _). IsNodeStep chosen g.N.Node (λ _. Unit {0}) (record { old = c.args.nodes.now.items; new = ys }) (Restart c.args.node) Restarted) (sym r.now)
    (step_set chosen g.N.Node (λ _. Unit {0}) c.args.nodes.now.items c.in-Some.at r.before r.after c.args.node
    (Restart c.args.node) Restarted lt r.was c.in-Some.ensures.found.0 refl r.was_clean
    (λ w y s at clean in_state. record { up = true; history = y.history; happens = rw at (inl (refl, refl)); in_state = r.holds.2 y.up y.history clean in_state }))

pub returns-in-Err-clause-step : goal.returns-in-Err-clause-step
returns-in-Err-clause-step g c = λ chosen.
    let lt : c.in-Some.at < length c.args.nodes.now.items = omega (arith, c.in-Some.ensures.found.1, c.len.ensures) in
    let r = c.in-Err.ensures in
    subst (λ (ys : List _). IsNodeStep chosen g.N.Node (λ _. Unit {0}) (record { old = c.args.nodes.now.items; new = ys }) (Restart c.args.node) (IsDown c.in-Err.cause)) (sym r.now)
    (step_set chosen g.N.Node (λ _. Unit {0}) c.args.nodes.now.items c.in-Some.at r.before r.after c.args.node (Restart c.args.node)
    (IsDown c.in-Err.cause) lt r.was c.in-Some.ensures.found.0 refl r.was_clean
    (λ w y s at clean in_state.
    (let t = r.holds.2 y.up y.history clean in_state in record { up = false; history = y.history; happens = rw at (inr (c.in-Err.cause, t.0, refl, refl)); in_state = t.1 })))

pub returns-in_default-clause-account : goal.returns-in_default-clause-account
returns-in_default-clause-account g c = account_stay g.N.Node.failed g.N.Node.loads (Restart c.args.node) (Refused NoNode) c.args.nodes.now.items no_node_not refl

pub returns-in-Ok-clause-account : goal.returns-in-Ok-clause-account
returns-in-Ok-clause-account g c =
    let lt : c.in-Some.at < length c.args.nodes.now.items = omega (arith, c.in-Some.ensures.found.1, c.len.ensures) in
    let r = c.in-Ok.ensures in
    account_set g.N.Node.failed g.N.Node.loads (Restart c.args.node) Restarted c.args.nodes.now.items c.restart_node.new.nodes.items c.in-Some.at c.args.node r.before r.after lt r.was r.now
    c.in-Some.ensures.found.0 refl (record { failures = opened_shown Restarted tt restarted_not (λ t. t) r.holds.0; loaded = r.holds.1 })

pub returns-in-Err-clause-account : goal.returns-in-Err-clause-account
returns-in-Err-clause-account g c =
    let lt : c.in-Some.at < length c.args.nodes.now.items = omega (arith, c.in-Some.ensures.found.1, c.len.ensures) in
    let r = c.in-Err.ensures in
    account_set g.N.Node.failed g.N.Node.loads (Restart c.args.node) (IsDown c.in-Err.cause) c.args.nodes.now.items c.restart_node.new.nodes.items c.in-Some.at c.args.node r.before r.after lt r.was
    r.now c.in-Some.ensures.found.0 refl (record { failures = down_shown c.in-Err.cause (λ t. t) r.holds.0; loaded = r.holds.1 })
