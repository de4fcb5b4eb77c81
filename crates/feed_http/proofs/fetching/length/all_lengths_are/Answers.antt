use Rattle.std.proofs.Common.{ap, sym, ◌∙◌, true, false}
use Rattle.std.specs.List.{list_all}
use Rattle.std.proofs.lemmas.List.{take_all}
use Rattle.std.proofs.lemmas.List.Folds.{list_all_at}
use Rattle.feed_http_heads.specs.Fields.{has_other_name_or}
use Rattle.feed_http.specs.Announcements.{is_length_value, content_length}
use Rattle.feed_http_heads.proofs.NamedFields.{all_values}
use Rattle.feed_http.proofs.fetching.length.all_lengths_are.Goals as goal

pub returns-then-not-has_other_name_or_length : goal.returns-then-not-has_other_name_or_length
returns-then-not-has_other_name_or_length c = all_values (is_length_value c.args.size) c.args.found.now.buffer.now content_length c.args.found.now.headers.now false
    (sym (list_all_at (has_other_name_or (is_length_value c.args.size) c.args.found.now.buffer.now content_length) c.args.found.now.headers.now c.loop-header.header-index _ c.loop-header-test.true
    (sym c.has_other_name_or_length.ensures ∙ c.if-not-has_other_name_or_length.true)))

pub returns : goal.returns
returns c = all_values (is_length_value c.args.size) c.args.found.now.buffer.now content_length c.args.found.now.headers.now true
    (sym (ap (list_all (has_other_name_or (is_length_value c.args.size) c.args.found.now.buffer.now content_length))
    (sym (take_all c.loop-header.header-index c.args.found.now.headers.now c.loop-header-test.false))
    ∙ c.loop-header.invariant))
