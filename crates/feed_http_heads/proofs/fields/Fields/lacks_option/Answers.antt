use Rattle.std.proofs.Common.{ap, sym, ◌∙◌, true, false}
use Rattle.std.specs.Prelude.{not}
use Rattle.std.specs.List.{list_all}
use Rattle.std.proofs.lemmas.List.{take_all}
use Rattle.std.proofs.lemmas.List.Folds.{list_all_at}
use Rattle.feed_http_heads.specs.Fields.{has_other_name_or}
use Rattle.feed_http_heads.specs.Options.{lists}
use Rattle.feed_http_heads.proofs.NamedFields.{all_values}
use Rattle.feed_http_heads.proofs.fields.Fields.lacks_option.Goals as goal

pub returns-then-not-has_other_name_or_lacks : goal.returns-then-not-has_other_name_or_lacks
returns-then-not-has_other_name_or_lacks c = all_values (λ value. not (lists c.args.option.now value)) c.args.self.now.buffer.now c.args.name.now c.args.self.now.headers.now false
    (sym (list_all_at (has_other_name_or (λ value. not (lists c.args.option.now value)) c.args.self.now.buffer.now c.args.name.now)
    c.args.self.now.headers.now c.loop-header.header-index _ c.loop-header-test.true
    (sym c.has_other_name_or_lacks.ensures ∙ c.if-not-has_other_name_or_lacks.true)))

pub returns : goal.returns
returns c = all_values (λ value. not (lists c.args.option.now value)) c.args.self.now.buffer.now c.args.name.now c.args.self.now.headers.now true
    (sym (ap (list_all (has_other_name_or (λ value. not (lists c.args.option.now value)) c.args.self.now.buffer.now c.args.name.now)) (sym
    (take_all c.loop-header.header-index c.args.self.now.headers.now c.loop-header-test.false)) ∙ c.loop-header.invariant))
