use Rattle.std.proofs.Common.{◌≡◌, ◌++◌, List, sym, ◌∙◌, ap}
use Rattle.std.proofs.lemmas.List.{map-append}
use Rattle.std.specs.Option.{option_or}
use Rattle.feed_model.specs.Content.{Part, Record}
use Rattle.feed_parts.specs.Shown.{shown_part, shown_parts}
use Rattle.feed_keep.specs.Arranged.{lengthened}
use Rattle.feed_keep.specs.declared.record.Record as code
use Rattle.feed_keep.specs.Shown.{shown, shown_record}
use Rattle.feed_keep.proofs.Records.{changed_none, set_at, set_same, on_err}
use Rattle.feed_keep.proofs.list_keep.grow.Goals as goal

pub returns-in_default-clause-ok : goal.returns-in_default-clause-ok
returns-in_default-clause-ok c = sym (changed_none c.args.name.now _ (shown c.args.records.now.items) (rw c.deref.ensures.value at c.in_default.ensures.none))

pub returns-in_err-append-clause-err : goal.returns-in_err-append-clause-err
returns-in_err-append-clause-err c =
    let r = c.index_mut-record.result.now in
    let same : shown_parts c.append.new.self.items ≡ shown_parts r.parts.items = ap shown_parts c.in_err-append.ensures.items in
    on_err _ _ (set_same c.args.records.now.items c.in-Some.at r _
    (ap (λ (ps : List Part). let x : Record = record { name = r.name; size = r.size; state = r.state; reason = r.reason; parts = ps } in x) same ∙ ap shown_record c.index_mut-record.ensures.value))

pub returns-clause-ok : goal.returns-clause-ok
returns-clause-ok c =
    let r = c.index_mut-record.result.now in
    let place = rw c.deref.ensures.value at c.in-Some.ensures.found in
    let parts : shown_parts c.append.new.self.items ≡ shown_parts r.parts.items ++ shown_parts c.args.parts.now =
    ap shown_parts c.in_ok-append.ensures.items ∙ map-append shown_part r.parts.items c.in_ok-new.new.items ∙ ap (λ (ps : List Part). shown_parts r.parts.items ++ ps) c.in_ok-new.ensures in
    rw c.or-record.ensures (set_at c.args.records.now.items c.args.name.now c.in-Some.at r _ (lengthened (shown_parts c.args.parts.now) c.args.state c.args.reason) place
    (ap (λ (ps : List Part). let x : Record = record { name = r.name; size = r.size; state = c.args.state; reason = option_or c.args.reason r.reason; parts = ps } in x) parts
    ∙ ap (λ (y : code.Record). lengthened (shown_parts c.args.parts.now) c.args.state c.args.reason (shown_record y)) c.index_mut-record.ensures.value))
