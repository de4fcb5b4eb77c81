use Rattle.std.proofs.Common.{subst, sym}
use Rattle.feed_http.specs.declared.fetching.response_machine.Place.{Place}
use Rattle.feed_http.specs.ArrivingResponses.{IsAtPlace}
use Rattle.feed_http.proofs.AnnouncedFaults.{announced_fault}
use Rattle.feed_http.proofs.ResponsePassing.{head_announced, head_failed}
use Rattle.feed_http.proofs.fetching.response_machine.ResponseMachine.step_heads.Goals as goal

pub returns-in-Ok-clause-step : goal.returns-in-Ok-clause-step
returns-in-Ok-clause-step c text body at =
    let heads = subst (λ (p : Place). IsAtPlace c.args.self.now.method p text body) c.requires at in
    let found = (c.in-Head.ensures.step text heads.0).1 in
    head_announced c.args.self.now.method c.in-Ok.announced c.body_of-machine.result text c.args.bytes.now body found.0 c.in-Head.spans.len found.2
    (sym (c.in-Ok.ensures.value found.0 found.1)) heads.1 c.body_of-machine.ensures

pub returns-in-Err-clause-step : goal.returns-in-Err-clause-step
returns-in-Err-clause-step c text body at more =
    let heads = subst (λ (p : Place). IsAtPlace c.args.self.now.method p text body) c.requires at in
    let found = (c.in-Head.ensures.step text heads.0).1 in
    head_failed c.args.self.now.method c.in-Err.fault text c.args.bytes.now more found.0 c.in-Head.spans.len found.2 (sym (c.in-Err.ensures.value found.0 found.1))

pub returns-in-Err-clause-within : goal.returns-in-Err-clause-within
returns-in-Err-clause-within c =
    let of = c.in-Head.ensures.within.4 in announced_fault c.args.self.now.method of.0 c.in-Err.fault (c.in-Err.ensures.value of.0 of.1)
