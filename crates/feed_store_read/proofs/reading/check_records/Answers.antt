use Rattle.std.proofs.Common.{◌≡◌, true, false, All, sym, subst, ◌∙◌}
use Rattle.std.specs.List.{IsDistinct}
use Rattle.std.specs.Ordering.{int_eq}
use Rattle.feed_parts.specs.Shown.{shown_parts}
use Rattle.feed_keep.specs.declared.record.Record.{Record}
use Rattle.feed_keep.specs.CheckOrder.{ArePartsAscending}
use Rattle.feed_store_read.proofs.Joined.{all_parts_up, joined, now_listed, piece_ids_apart, release_ids_apart}
use Rattle.feed_store_model.proofs.Ours.{tables_in}
use Rattle.feed_store_read.proofs.Orders.{ascending_in_order, names_differ}
use Rattle.feed_store_read.proofs.reading.check_records.Goals as goal

never : true ≡ false → ⊥
never g = absurd cc

pub returns-then-not-sort_distinct-clause-joined : goal.returns-then-not-sort_distinct-clause-joined
returns-then-not-sort_distinct-clause-joined c db ours it are =
    let d = release_ids_apart db c.args.found c.args.ids.items it are in
    never (sym (c.sort_distinct.ensures.1 (subst (IsDistinct int_eq) (sym c.deref_mut.ensures.value) d)) ∙ c.if-not-sort_distinct.true)

pub returns-then-not-sort_distinct-2-clause-joined : goal.returns-then-not-sort_distinct-2-clause-joined
returns-then-not-sort_distinct-2-clause-joined c db ours it are =
    let d = piece_ids_apart db c.args.found c.args.ids.items it are in
    never (sym (c.sort_distinct-2.ensures.1 (subst (IsDistinct int_eq) (sym c.deref_mut-2.ensures.value) d)) ∙ c.if-not-sort_distinct-2.true)

pub returns-then-are_places_ascending-clause-distinct : goal.returns-then-are_places_ascending-clause-distinct
returns-then-are_places_ascending-clause-distinct c = names_differ _ c.requires.up

pub returns-then-are_places_ascending-clause-order : goal.returns-then-are_places_ascending-clause-order
returns-then-are_places_ascending-clause-order c =
    let parts = rw c.deref.ensures.value at (c.are_places_ascending.ensures.0 c.if-are_places_ascending.true) in
    ascending_in_order c.args.found.records.items c.requires.up parts

pub returns-then-are_places_ascending-clause-joined : goal.returns-then-are_places_ascending-clause-joined
returns-then-are_places_ascending-clause-joined c db tabled it =
    let ours = tables_in db tabled in
    let one = subst (IsDistinct int_eq) c.deref_mut.ensures.value (c.sort_distinct.ensures.0 c.if-not-sort_distinct.false) in
    let two = subst (IsDistinct int_eq) c.deref_mut-2.ensures.value (c.sort_distinct-2.ensures.0 c.if-not-sort_distinct-2.false) in
    let are = now_listed db c.args.found c.args.ids.items it one two in
    record { listed = are; content = joined db c.args.found c.args.ids.items ours are it c.requires.up }

pub returns-clause-joined : goal.returns-clause-joined
returns-clause-joined c db tabled it are =
    let ours = tables_in db tabled in
    let up = all_parts_up db c.args.found c.args.ids.items ours are it in
    let yes = c.are_places_ascending.ensures.1 (subst (All (λ (r : Record). ArePartsAscending (shown_parts r.parts.items))) (sym c.deref.ensures.value) up) in
    never (sym yes ∙ c.if-are_places_ascending.false)
