use Rattle.std.proofs.Common.{◌≡◌, ◌-◌, ◌∙◌, ℕ, List, drop, length, take, sym, ap, subst, arith}
use Rattle.std.proofs.lemmas.List.{length-map, take_rest}
use Rattle.feed_parts.specs.Segments.{HasRun}
use Rattle.feed_parts.specs.Shown.{shown_part, shown_parts}
use Rattle.feed_parts.proofs.From.{first_within, none_ahead_of, none_past, run_part}
use Rattle.feed_parts.proofs.segments.Segments.bytes_from.Goals as goal

pub overflow_sub-skipped : goal.overflow_sub-skipped
overflow_sub-skipped c =
    let found = rw c.deref.ensures.value at c.in-Some.ensures.found in
    first_within c.self.inside.parts.items c.in-Some.at c.index-part.result.now c.args.place c.index-part.ensures found.1

pub returns-then-skipped-len-clause-stored : goal.returns-then-skipped-len-clause-stored
returns-then-skipped-len-clause-stored c =
    let items = c.self.inside.parts.items in
    let part = c.index-part.result.now in
    let found = rw (c.deref.ensures.value, length-map items shown_part) at c.in-Some.ensures.found in
    let low = first_within items c.in-Some.at part c.args.place c.index-part.ensures found.1 in
    let run = run_part 0 items c.self.invariant.0.parts c.in-Some.at part found.0 c.index-part.ensures c.args.place low in
    let skipped = c.args.place - part.first in
    let bytes : take (length c.deref-then-skipped-len.result.now - skipped) (drop skipped c.deref-then-skipped-len.result.now) ≡ drop skipped part.bytes.items =
    take_rest c.deref-then-skipped-len.result.now skipped ∙ ap (drop skipped) c.deref-then-skipped-len.ensures.value in
    subst (λ (l : List ℕ). HasRun c.args.self.now.parts c.args.place l) (sym bytes) (rw (← c.self.view_is) run)

pub returns-in_default-clause-missing : goal.returns-in_default-clause-missing
returns-in_default-clause-missing c empty =
    rw (← c.self.view_is) (none_ahead_of (shown_parts c.self.inside.parts.items) c.args.place (rw c.deref.ensures.value at c.in_default.ensures.found))

pub returns-else-skipped-len-clause-missing : goal.returns-else-skipped-len-clause-missing
returns-else-skipped-len-clause-missing c empty =
    let items = c.self.inside.parts.items in
    let part = c.index-part.result.now in
    let found = rw (c.deref.ensures.value, length-map items shown_part) at c.in-Some.ensures.found in
    let low = first_within items c.in-Some.at part c.args.place c.index-part.ensures found.1 in
    rw (← c.self.view_is) (none_past 0 items c.self.invariant.0.parts c.in-Some.at part found.0 c.index-part.ensures c.args.place
    (omega (arith, c.if-skipped-len.false, c.len.ensures, low)) found.2)
