use Rattle.std.proofs.Common.{◌≡◌, ◌<◌, ◌+◌, ℕ, zero, suc, ◌∷◌, length, drop, refl, sym, subst, arith}
use Rattle.feed_model.specs.Content.{end_of}
use Rattle.feed_parts.specs.Shown.{shown_part, shown_parts}
use Rattle.feed_parts.proofs.Rest.{next}
use Rattle.feed_parts.proofs.Checked.{IsChecked, checked_next, checked_not}
use Rattle.feed_parts.proofs.part.are_within.Goals as goal
use Rattle.feed_parts.proofs.part.are_within.Goals.{After-part-item}

positive : (n m : ℕ) → n ≡ m → (n ≡ 0 → ⊥) → 0 < m
positive zero m e some = absurd (some refl)
positive (suc n) m e some = omega (arith, e)

-- the part of this turn is the first of the rest
at_part : (c : After-part-item)
    → IsChecked c.args.size (shown_parts c.args.parts.now) c.loop-part.place (shown_part c.part-item.result ∷ shown_parts (drop (c.loop-part.part-index + 1) c.args.parts.now))
at_part c =
    subst (IsChecked c.args.size (shown_parts c.args.parts.now) c.loop-part.place)
    (next c.args.parts.now c.loop-part.part-index c.part-item.result c.loop-part-test.true c.part-item.is) c.loop-part.invariant

pub returns-then-length-saturating_sub : goal.returns-then-length-saturating_sub
returns-then-length-saturating_sub c =
    let part = shown_part c.part-item.result in
    let at = at_part (goal.at.returns-then-length-saturating_sub c).After-part-item in (
      λ t. absurd (cc),
      λ within. absurd (checked_not c.args.size (shown_parts c.args.parts.now) c.loop-part.place part (shown_parts (drop (c.loop-part.part-index + 1) c.args.parts.now)) at
          (λ le some small inside. omega (arith, inside, c.len-length.ensures, c.part-item.result.bytes.ok.0, c.saturating_sub.ensures, c.if-length-saturating_sub.true, some)) within),
    )

pub loop-part-preserved : goal.loop-part-preserved
loop-part-preserved c =
    let part = shown_part c.part-item.result in
    let rest = shown_parts (drop (c.loop-part.part-index + 1) c.args.parts.now) in
    let at = at_part (goal.at.loop-part-preserved c).After-part-item in
    let end : c.part-item.result.first + c.len-length.result ≡ end_of part = omega (arith, c.len-length.ensures, c.part-item.result.bytes.ok.0) in
    let some : 0 < length part.bytes = positive c.len-length.result (length part.bytes) (omega (arith, c.len-length.ensures, c.part-item.result.bytes.ok.0)) c.if-length-eq0.false in
    subst (λ place. IsChecked c.args.size (shown_parts c.args.parts.now) place rest) (sym end)
    (checked_next c.args.size (shown_parts c.args.parts.now) c.loop-part.place part rest c.if-part-place.false some
    (omega (arith, c.len-length.ensures, c.part-item.result.bytes.ok.0, c.len.ensures, c.if-len-gt-PIECE_LIMIT.false))
    (omega (arith, some, c.len-length.ensures, c.part-item.result.bytes.ok.0, c.saturating_sub.ensures, c.if-length-saturating_sub.false)) at)
