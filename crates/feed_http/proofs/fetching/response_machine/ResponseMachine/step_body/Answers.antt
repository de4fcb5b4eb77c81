use Rattle.std.proofs.Common.{subst, sym, ◌∙◌}
use Rattle.feed_limits.specs.Limits.{file_limit}
use Rattle.feed_http.specs.declared.fetching.step.Step.{Step}
use Rattle.feed_http.specs.declared.fetching.validation.Announcement.{Announcement}
use Rattle.feed_http.specs.declared.fetching.validation.Announcement.TheVariants.{Part, Whole}
use Rattle.feed_http.specs.declared.fetching.response_machine.Place.{Place}
use Rattle.feed_http.specs.declared.fetching.response_machine.Place.TheVariants as places
use Rattle.feed_http.specs.ArrivingResponses.{IsAtPlace, IsBehindHead, IsResponseStep}
use Rattle.feed_http.proofs.ResponsePassing.{reply_step, whole_read, part_read, same_step, part_step, fault_of_part}
use Rattle.feed_http.proofs.fetching.response_machine.ResponseMachine.step_body.Goals as goal

pub returns-in-Part-clause-step : goal.returns-in-Part-clause-step
returns-in-Part-clause-step c text body at =
    let method = c.args.self.now.method in
    let new = c.step-step.new.self in
    let bytes = c.args.bytes.now in
    let part = Part c.in-Part.first c.in-Part.total c.in-Part.count c.in-Part.framing in
    let behind = subst (λ (a : Announcement). IsBehindHead method a c.args.machine text body) c.in-Part.is
    (subst (λ (p : Place). IsAtPlace method p text body) c.requires at) in
    subst (λ (a : Announcement). IsResponseStep (record { method = method; place = places.Body a new }) text body bytes c.step_of_part.result) (sym c.in-Part.is)
    (subst (λ (s : Step). IsResponseStep (record { method = method; place = places.Body part new }) text body bytes s) (part_step c.step-step.result ∙ sym c.step_of_part.ensures.value)
    (reply_step method part c.in-Part.framing c.in-Part.count c.in-Part.count fault_of_part (part_read c.in-Part.first c.in-Part.total c.in-Part.count c.in-Part.framing) c.args.machine new
    text body bytes behind c.step-step.ensures.framing c.step-step.ensures.bounds c.step-step.result c.step-step.ensures.step))

pub returns-in-Whole-clause-step : goal.returns-in-Whole-clause-step
returns-in-Whole-clause-step c text body at =
    let method = c.args.self.now.method in
    let new = c.step-step-in-Whole.new.self in
    let bytes = c.args.bytes.now in
    let framing = c.in-Whole.field-0 in
    let behind = subst (λ (a : Announcement). IsBehindHead method a c.args.machine text body) c.in-Whole.is
    (subst (λ (p : Place). IsAtPlace method p text body) c.requires at) in
    subst (λ (a : Announcement). IsResponseStep (record { method = method; place = places.Body a new }) text body bytes c.step-step-in-Whole.result) (sym c.in-Whole.is)
    (subst (λ (s : Step). IsResponseStep (record { method = method; place = places.Body (Whole framing) new }) text body bytes s) (same_step c.step-step-in-Whole.result)
    (reply_step method (Whole framing) framing 0 file_limit (λ e. e) (whole_read framing) c.args.machine new
    text body bytes behind c.step-step-in-Whole.ensures.framing c.step-step-in-Whole.ensures.bounds c.step-step-in-Whole.result c.step-step-in-Whole.ensures.step))
