use Rattle.std.proofs.Common.{◌++◌, ◌∷◌, List, length, eqb-true, sym, ap, subst, ◌∙◌, arith}
use Rattle.feed_model.specs.Content.{Part, end_of, AreParts}
use Rattle.feed_model.specs.Change.{merged}
use Rattle.feed_parts.specs.Shown.{shown_part, shown_parts}
use Rattle.feed_parts.specs.Piece.{joined}
use Rattle.feed_parts.proofs.Joined.{no_bytes, read_front}
use Rattle.feed_parts.proofs.Places.{starts_earlier}
use Rattle.feed_parts.proofs.reading.SegmentReaderRead.read.Goals as goal
use Rattle.feed_parts.proofs.reading.SegmentReaderRead.read.Goals.{In-Some}

abbrev rest : In-Some → List Part
rest c = merged (shown_parts c.in-Some.kept.now) (shown_parts c.in-Some.new.now)

parts : (c : In-Some) → AreParts (shown_part c.in-Some.part.now ∷ rest c)
parts c = subst AreParts c.in-Some.ensures.first c.self.invariant.1

pub invariant_of-self-in-Some : goal.invariant_of-self-in-Some
invariant_of-self-in-Some c =
    let some = (goal.at.invariant_of-self-in-Some c).In-Some in
    (c.in-Some.ensures.order, starts_earlier (end_of (shown_part c.in-Some.part.now)) 0 (rest some) (omega arith) (parts some).3)

pub returns-in-Some-clause-bytes : goal.returns-in-Some-clause-bytes
returns-in-Some-clause-bytes c =
    let some = (goal.at.returns-in-Some-clause-bytes c).In-Some in
    let part = c.in-Some.part.now in
    let inside = c.self.inside in
    let empty = no_bytes inside.front.now (eqb-true (length inside.front.now) 0 (sym c.is_empty.ensures ∙ c.if-not-is_empty.false)) in
    read_front c.args.self.now part.bytes.items (joined (rest some)) c.read-in-Some.new.self.now c.read-in-Some.new.buf c.read-in-Some.result
    (sym c.self.view_is ∙ ap (λ xs. xs ++ joined (merged (shown_parts inside.kept.now) (shown_parts inside.new.now))) empty ∙ ap joined c.in-Some.ensures.first)
    (parts some).1
    (rw c.as_slice-self-inside.ensures.value at c.read-in-Some.ensures.bytes)
