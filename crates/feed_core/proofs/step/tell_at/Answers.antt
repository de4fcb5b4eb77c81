use Rattle.std.proofs.Common.{true, ◌≡◌, ◌∷◌, refl, ◌∙◌, ap, Ok, Err, slice_set}
use Rattle.feed_model.specs.History.{Answer}
use Rattle.feed_model.specs.Reply.{IsRight}
use Rattle.feed_world.specs.World.{Shelf, Tell, Replied, Refused, answer_line, arriving, with_node}
use Rattle.feed_world.specs.declared.line.Why.TheVariants.{Feed}
use Rattle.feed_releases.specs.Events.{event_of}
use Rattle.feed_core.specs.Nodes.{shown_arrived}
use Rattle.feed_core.proofs.Steps.{away_sent, step_ready, next}
use Rattle.feed_core.proofs.Counts.{account_set, account_stay, answer_reported, away_not, refusal_shown, reply_shown}
use Rattle.feed_core.proofs.step.tell_at.Goals as goal

pub returns-in-Err-clause-step : goal.returns-in-Err-clause-step
returns-in-Err-clause-step g c = λ chosen sent.
    away_sent chosen g.N.Node c.args.nodes.now.items c.args.node sent c.args.arrived c.in-Err.why (Tell c.args.node sent)
    (λ w line v x e. (answer : Answer) × IsRight x.history e answer × (line ≡ answer_line answer) × (v ≡ with_node w c.args.node true ((e, answer) ∷ x.history))) refl (λ w line v h. h)
    (rw c.deref.ensures.value at c.in-Err.ensures.away)

pub returns-in-Err-clause-account : goal.returns-in-Err-clause-account
returns-in-Err-clause-account g c = λ other sent.
    account_stay g.N.Node.failed g.N.Node.loads (Tell c.args.node sent) (Refused c.in-Err.why) c.args.nodes.now.items
    (away_not g.N.Node.has_state c.args.nodes.now.items c.args.node c.args.arrived c.in-Err.why other (rw c.deref.ensures.value at c.in-Err.ensures.away)) refl

pub returns-in-Ok-handle-clause-step : goal.returns-in-Ok-handle-clause-step
returns-in-Ok-handle-clause-step g c = λ chosen sent.
    let ready = rw c.deref.ensures.value at c.in-Ok.ensures.ready in
    step_ready chosen g.N.Node
    (λ (z : Shelf). arriving z sent ≡ shown_arrived c.args.arrived) c.args.nodes.now.items c.in-Ok.ready.0 c.index_mut.result.now c.handle.new.self c.args.node (Tell c.args.node sent)
    (Replied c.in-Ok-handle.reply) ready.0 c.index_mut.ensures.value refl c.in-Ok-handle.ensures.clean
    (λ w y s at up k in_state. (let r = c.in-Ok-handle.ensures.right y.history in_state in record {
      up = true;
      history = (event_of c.in-Ok.ready.1, Ok c.in-Ok-handle.reply) ∷ y.history;
      happens = rw
          (at, (s ∙ ap shown_arrived ready.1), up) (Ok c.in-Ok-handle.reply, r.0, refl, refl);
      in_state = r.1;
    }))

pub returns-in-Err-handle-clause-step : goal.returns-in-Err-handle-clause-step
returns-in-Err-handle-clause-step g c = λ chosen sent.
    let ready = rw c.deref.ensures.value at c.in-Ok.ensures.ready in
    step_ready chosen g.N.Node
    (λ (z : Shelf). arriving z sent ≡ shown_arrived c.args.arrived) c.args.nodes.now.items c.in-Ok.ready.0 c.index_mut.result.now c.handle.new.self c.args.node (Tell c.args.node sent)
    (Refused (Feed c.in-Err-handle.refusal)) ready.0 c.index_mut.ensures.value refl c.in-Err-handle.ensures.clean
    (λ w y s at up k in_state. (let r = c.in-Err-handle.ensures.right y.history in_state in record {
      up = true;
      history = (event_of c.in-Ok.ready.1, Err c.in-Err-handle.refusal) ∷ y.history;
      happens = rw
          (at, (s ∙ ap shown_arrived ready.1), up) (Err c.in-Err-handle.refusal, r.0, refl, refl);
      in_state = r.1;
    }))

pub returns-in-Ok-handle-clause-account : goal.returns-in-Ok-handle-clause-account
returns-in-Ok-handle-clause-account g c = λ other sent.
    let ready = rw c.deref.ensures.value at c.in-Ok.ensures.ready in
    account_set g.N.Node.failed g.N.Node.loads (Tell c.args.node sent) (Replied c.in-Ok-handle.reply) c.args.nodes.now.items (slice_set c.args.nodes.now.items c.in-Ok.ready.0 c.handle.new.self)
    c.in-Ok.ready.0 c.args.node c.index_mut.result.now c.handle.new.self ready.0.within c.index_mut.ensures.value refl (next ready.0.number) refl
    (record { failures = reply_shown c.in-Ok-handle.reply (answer_reported (Ok c.in-Ok-handle.reply) _ _ c.in-Ok-handle.ensures.device); loaded = c.in-Ok-handle.ensures.unloaded })

pub returns-in-Err-handle-clause-account : goal.returns-in-Err-handle-clause-account
returns-in-Err-handle-clause-account g c = λ other sent.
    let ready = rw c.deref.ensures.value at c.in-Ok.ensures.ready in
    account_set g.N.Node.failed g.N.Node.loads (Tell c.args.node sent) (Refused (Feed c.in-Err-handle.refusal)) c.args.nodes.now.items
    (slice_set c.args.nodes.now.items c.in-Ok.ready.0 c.handle.new.self) c.in-Ok.ready.0 c.args.node c.index_mut.result.now c.handle.new.self ready.0.within c.index_mut.ensures.value refl
    (next ready.0.number) refl
    (record { failures = refusal_shown c.in-Err-handle.refusal (answer_reported (Err c.in-Err-handle.refusal) _ _ c.in-Err-handle.ensures.device); loaded = c.in-Err-handle.ensures.unloaded })
