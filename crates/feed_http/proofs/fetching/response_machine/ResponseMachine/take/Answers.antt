use Rattle.std.proofs.Common.{ℕ, ◌+◌, append_assoc, List, ◌++◌, length, take, sym, ap, ◌∙◌, subst, Err}
use Rattle.std.specs.Prelude.{slice_range}
use Rattle.feed_http_heads.specs.declared.http_fault.HttpFault.TheVariants.{Memory}
use Rattle.feed_http.specs.declared.fetching.got.Method.{Method}
use Rattle.feed_http.specs.Got.{IsResultOf}
use Rattle.feed_http.specs.ArrivingResponses.{HasPassedResponse, file_length}
use Rattle.feed_http.proofs.Advancing.{fits_more, passed_more, part_of, still_stated, whole_text}
use Rattle.feed_http.proofs.fetching.response_machine.ResponseMachine.take.Goals as goal

pub steps-preserved-in-Skip : goal.steps-preserved-in-Skip
steps-preserved-in-Skip c = let i = c.steps.invariant in let e = c.in-Skip.ensures in record {
  within = fits_more c.args.bytes.now c.steps.count c.in-Skip.passed i.within e.within.1;
  method = e.method ∙ i.method;
  stated = still_stated (file_length c.args.self.now.place) (file_length c.steps.self.place) (file_length c.step.new.self.place) i.stated e.stated;
  passed = λ text before at.
      subst (λ (t : List ℕ). HasPassedResponse c.step.new.self t (before ++ c.steps.body.items)) (passed_more text c.args.bytes.now c.steps.count c.in-Skip.passed)
      (e.step (text ++ take c.steps.count c.args.bytes.now) (before ++ c.steps.body.items) (i.passed text before at));
}

pub steps-preserved : goal.steps-preserved
steps-preserved c = let i = c.steps.invariant in let e = c.in-Body.ensures in record {
  within = fits_more c.args.bytes.now c.steps.count c.in-Body.passed i.within e.within.1;
  method = e.method ∙ i.method;
  stated = still_stated (file_length c.args.self.now.place) (file_length c.steps.self.place) (file_length c.step.new.self.place) i.stated e.stated;
  passed = λ text before at.
      let step = e.step (text ++ take c.steps.count c.args.bytes.now) (before ++ c.steps.body.items) (i.passed text before at) in
      let part = take c.in-Body.passed (slice_range c.args.bytes.now c.steps.count (length c.args.bytes.now)) in
      let whole = text ++ take (c.steps.count + c.in-Body.passed) c.args.bytes.now in
      subst (λ (b : List ℕ). HasPassedResponse c.step.new.self whole b)
      (append_assoc before c.steps.body.items part ∙ ap (λ (t : List ℕ). before ++ t)
      (sym (c.in-Ok.ensures.items ∙ ap (λ (t : List ℕ). c.steps.body.items ++ t) (part_of c.args.bytes.now c.steps.count c.in-Body.passed))))
      (subst (λ (t : List ℕ). HasPassedResponse c.step.new.self t (before ++ c.steps.body.items ++ part))
      (passed_more text c.args.bytes.now c.steps.count c.in-Body.passed) step.0);
}

pub returns-in_default-clause-faults : goal.returns-in_default-clause-faults
returns-in_default-clause-faults c text before at more = let i = c.steps.invariant in let e = c.in-Body.ensures in
    subst (λ (m : Method). IsResultOf m (text ++ (c.args.bytes.now ++ more)) (Err Memory)) (e.method ∙ i.method)
    (subst (λ (t : List ℕ). IsResultOf c.step.new.self.method t (Err Memory)) (whole_text text c.args.bytes.now more c.steps.count)
    ((e.step (text ++ take c.steps.count c.args.bytes.now) (before ++ c.steps.body.items) (i.passed text before at)).1 more))

pub returns-in-Fault-clause-faults : goal.returns-in-Fault-clause-faults
returns-in-Fault-clause-faults c text before at more = let i = c.steps.invariant in let e = c.in-Fault.ensures in
    subst (λ (m : Method). IsResultOf m (text ++ (c.args.bytes.now ++ more)) (Err c.in-Fault.fault)) (e.method ∙ i.method)
    (subst (λ (t : List ℕ). IsResultOf c.step.new.self.method t (Err c.in-Fault.fault)) (whole_text text c.args.bytes.now more c.steps.count)
    (e.step (text ++ take c.steps.count c.args.bytes.now) (before ++ c.steps.body.items) (i.passed text before at) more))
