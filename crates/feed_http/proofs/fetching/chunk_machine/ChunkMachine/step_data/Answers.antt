use Rattle.std.proofs.Common.{arith, subst}
use Rattle.feed_http.specs.declared.fetching.chunk_machine.Next.{Next}
use Rattle.feed_http.specs.ArrivingChunks.{IsPassedTo}
use Rattle.feed_http.proofs.ChunkPassing.{end_passed}
use Rattle.feed_http.proofs.fetching.chunk_machine.ChunkMachine.step_data.Goals as goal

pub returns-in-Complete-clause-step : goal.returns-in-Complete-clause-step
returns-in-Complete-clause-step c text body at =
    let least = c.args.self.now.bounds.least in
    let most = c.args.self.now.bounds.most in
    let announced = c.args.self.now.announced in
    end_passed least most announced c.args.left text body c.args.bytes.now
    (subst (λ (n : Next). IsPassedTo least most n announced text body) c.requires at) (let z = c.if-left-gt0.false in omega (arith, z)) c.in-Complete.ensures.1
