use Rattle.std.proofs.Common.{◌≡◌, ◌++◌, ◌∷◌, [], List, ℕ, ◌∙◌, ap}
use Rattle.std.proofs.lemmas.List.{map-append}
use Rattle.feed_model.specs.Content.{Part, Record}
use Rattle.feed_parts.specs.Shown.{shown_part, shown_parts}
use Rattle.feed_keep.specs.declared.record.Record as code
use Rattle.feed_keep.specs.Shown.{shown_record}
use Rattle.feed_store_read.proofs.Ascending.{fuller, names_set, set_found}
use Rattle.feed_store_read.proofs.records.add_part.Goals as goal

pub returns-in_err-push-clause-names : goal.returns-in_err-push-clause-names
returns-in_err-push-clause-names c =
    names_set c.args.records.now.items c.in-Some.at _ c.index_mut-record.result.now (ap (λ (y : code.Record). y.name) c.index_mut-record.ensures.value)

pub returns-clause-names : goal.returns-clause-names
returns-clause-names c =
    names_set c.args.records.now.items c.in-Some.at _ c.index_mut-record.result.now (ap (λ (y : code.Record). y.name) c.index_mut-record.ensures.value)

pub returns-clause-given : goal.returns-clause-given
returns-clause-given c =
    let r = c.index_mut-record.result.now in
    let p : Part = record { first = c.args.first; bytes = c.args.bytes.now } in
    let parts : shown_parts c.push.new.self.items ≡ shown_parts r.parts.items ++ p ∷ [] =
    ap shown_parts c.in_ok-push.ensures.items ∙ map-append shown_part r.parts.items _
    ∙ ap (λ (bytes : List ℕ). let q : Part = record { first = c.args.first; bytes = bytes } in shown_parts r.parts.items ++ q ∷ []) c.in_ok-bytes.ensures.items in
    set_found c.args.records.now.items _ c.in-Some.at _ r c.args.text.now (λ x. fuller x p) c.requires.up c.deref.ensures.value c.in-Some.ensures.within c.in-Some.ensures.found
    (ap (λ (ps : List Part). let x : Record = record { name = r.name; size = r.size; state = r.state; reason = r.reason; parts = ps } in x) parts
    ∙ ap (λ (y : code.Record). fuller (shown_record y) p) c.index_mut-record.ensures.value)
