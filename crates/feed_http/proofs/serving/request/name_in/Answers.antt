use Rattle.feed_http.proofs.Targets.{no_release_undated, no_release_unstemmed}
use Rattle.feed_http.proofs.serving.request.name_in.Goals as goal

pub returns-in-Err-BadDate-clause-named : goal.returns-in-Err-BadDate-clause-named
returns-in-Err-BadDate-clause-named c = no_release_undated c.args.target.now c.origin_form.result.now c.in-Some.text.now c.as_slice.result.now
    c.origin_form.ensures c.as_slice.ensures c.in-Some.ensures.cases.1 (rw c.in-Err-BadDate.field-0-is at c.in-Err-BadDate.ensures.refused)

pub returns-in-Err-BadStem-clause-named : goal.returns-in-Err-BadStem-clause-named
returns-in-Err-BadStem-clause-named c = no_release_unstemmed c.args.target.now c.origin_form.result.now c.in-Some.text.now c.as_slice.result.now
    c.origin_form.ensures c.as_slice.ensures c.in-Some.ensures.cases.1 (rw c.in-Err-BadStem.field-0-is at c.in-Err-BadStem.ensures.refused)
