use Rattle.std.proofs.Common.{ap, ◌∙◌, Some}
use Rattle.feed_http.specs.Announcements.{content_length}
use Rattle.feed_http_heads.proofs.NamedFields.{first_value}
use Rattle.feed_http.proofs.CommonLengths.{agreed_on_none, agreed_on_no_length, agreed_on}
use Rattle.feed_http.proofs.fetching.length.common_length.Goals as goal

pub returns-in_err-first : goal.returns-in_err-first
returns-in_err-first c = λ fields are. c.from_residual.ensures
    ∙ agreed_on_none _ (first_value c.args.found.now.buffer.now content_length c.args.found.now.headers.now _ c.in_err-first.ensures.first fields are)

pub returns-in_err-size : goal.returns-in_err-size
returns-in_err-size c = λ fields are. c.from_residual-in_err-size.ensures
    ∙ agreed_on_no_length _ c.of.result.now (ap (λ v. Some v) c.of.ensures
    ∙ first_value c.args.found.now.buffer.now content_length c.args.found.now.headers.now _ c.in_ok-first.ensures.first fields are) c.in_err-size.ensures

pub returns : goal.returns
returns c = λ fields are. agreed_on _ c.of.result.now c.in_ok-size.size c.all_lengths_are.result c.then_some.result
    (ap (λ v. Some v) c.of.ensures ∙ first_value c.args.found.now.buffer.now content_length c.args.found.now.headers.now _ c.in_ok-first.ensures.first fields are) c.in_ok-size.ensures
    (c.all_lengths_are.ensures fields are) c.then_some.ensures
