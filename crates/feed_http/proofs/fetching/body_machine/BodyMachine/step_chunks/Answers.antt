use Rattle.std.proofs.Common.{subst}
use Rattle.feed_http.specs.declared.fetching.validation.Framing.{Framing}
use Rattle.feed_http.specs.ArrivingBodies.{HasPassedBody}
use Rattle.feed_http.proofs.BodyPassing.{chunk_step}
use Rattle.feed_http.proofs.fetching.body_machine.BodyMachine.step_chunks.Goals as goal

pub returns-clause-step : goal.returns-clause-step
returns-clause-step c text body at =
    chunk_step (record { framing = c.args.self.now.framing; chunks = c.step.new.self; arrived = c.args.self.now.arrived }) text body c.args.bytes.now c.step.result c.requires
    (c.step.ensures.step text body (subst (λ (f : Framing). HasPassedBody f c.args.self.now text body) c.requires at))
