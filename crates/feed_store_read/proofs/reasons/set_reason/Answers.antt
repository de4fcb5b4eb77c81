use Rattle.std.proofs.Common.{Some, ap}
use Rattle.std.specs.Option.{option_or}
use Rattle.feed_model.specs.Content.{Record}
use Rattle.feed_keep.specs.declared.record.Record as code
use Rattle.feed_parts.specs.Shown.{shown_parts}
use Rattle.feed_keep.specs.Shown.{shown_record}
use Rattle.feed_store_read.proofs.Ascending.{names_set, parts_set, set_found}
use Rattle.feed_store_read.proofs.reasons.set_reason.Goals as goal

pub returns-clause-names : goal.returns-clause-names
returns-clause-names c =
    names_set c.args.records.now.items c.in-Some.at _ c.index_mut-record.result.now (ap (λ (y : code.Record). y.name) c.index_mut-record.ensures.value)

pub returns-clause-given : goal.returns-clause-given
returns-clause-given c =
    let given : Record → Record = λ x. record x { reason = option_or x.reason (Some c.args.why) } in
    rw c.or-record.ensures (set_found c.args.records.now.items _ c.in-Some.at _ c.index_mut-record.result.now c.args.text.now given c.requires.up
    c.deref.ensures.value c.in-Some.ensures.within c.in-Some.ensures.found
    (ap (λ (y : code.Record). given (shown_record y)) c.index_mut-record.ensures.value))

pub returns-clause-parts : goal.returns-clause-parts
returns-clause-parts c =
    parts_set c.args.records.now.items c.in-Some.at _ c.index_mut-record.result.now
    (ap (λ (y : code.Record). shown_parts y.parts.items) c.index_mut-record.ensures.value)
