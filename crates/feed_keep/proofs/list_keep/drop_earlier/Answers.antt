use Rattle.std.proofs.Common.{ap, ◌∙◌, not, rules}
use Rattle.std.proofs.lemmas.Fn.{filter_same}
use Rattle.feed_names.specs.ReleaseName.{Name}
use Rattle.feed_model.specs.Change.{is_earlier}
use Rattle.feed_keep.specs.declared.record.Record.{Record}
use Rattle.feed_keep.specs.Shown.{shown}
use Rattle.feed_keep.proofs.Records.{shown-filter}
use Rattle.feed_keep.proofs.list_keep.drop_earlier.Goals as goal

pub returns : goal.returns
returns c =
    ap shown (filter_same _ (λ (r : Record). not (is_earlier r.name c.args.name.now)) _ (λ x b f' k. search rules) _ _ c.retain.ensures.filtered)
    ∙ shown-filter (λ (n : Name). not (is_earlier n c.args.name.now)) c.args.records.now.items
