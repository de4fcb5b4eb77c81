use Rattle.std.proofs.Common.{◌≡◌, refl}
use Rattle.feed_world.specs.World.{Text, Ask, Refused, IsAsked}
use Rattle.feed_core.proofs.Steps.{away_asked, asks_ready}
use Rattle.feed_core.proofs.step.ask_at.Goals as goal

pub returns-in-Err-clause-step : goal.returns-in-Err-clause-step
returns-in-Err-clause-step g c = λ chosen.
    away_asked chosen g.N.Node c.args.nodes.now c.args.node c.in-Err.why (Ask c.args.node c.args.«package».now c.args.query.now)
    (λ w line v x. (v ≡ w) × IsAsked x.history c.args.«package».now c.args.query.now line) refl (λ w line v h. h) c.in-Err.ensures.away

pub returns-in-Ok-ask-clause-step : goal.returns-in-Ok-ask-clause-step
returns-in-Ok-ask-clause-step g c = λ chosen.
    let ready = c.in-Ok.ensures.ready in
    asks_ready chosen g.N.Node c.args.nodes.now c.in-Ok.ready.0 c.index-nodes-at.result c.args.node (Ask c.args.node c.args.«package».now c.args.query.now)
    (Text c.in-Ok-ask.text.items) ready.0 c.index-nodes-at.is refl
    (λ w y at up in_state. (let answered = rw c.in-Ok-ask.is at (c.ask.ensures.answered y.history in_state) in rw (at, up) (refl, answered)))

pub returns-in-Err-ask-clause-step : goal.returns-in-Err-ask-clause-step
returns-in-Err-ask-clause-step g c = λ chosen.
    let ready = c.in-Ok.ensures.ready in
    asks_ready chosen g.N.Node c.args.nodes.now c.in-Ok.ready.0 c.index-nodes-at.result c.args.node (Ask c.args.node c.args.«package».now c.args.query.now)
    (Refused c.in-Err-ask.why) ready.0 c.index-nodes-at.is refl
    (λ w y at up in_state. (let answered = rw c.in-Err-ask.is at (c.ask.ensures.answered y.history in_state) in rw (at, up) (refl, answered)))
