use Rattle.std.proofs.Common.{◌≡◌, ◌-◌, ◌∙◌, true, false, eqb, refl, sym, arith}
use Rattle.std.proofs.lemmas.Bool.{not-true, not-false}
use Rattle.std.specs.Cmp.Lexicographic.{bytes_decides, pointwise}
use Rattle.feed_kbart.proofs.Stored.{differ_here, none_left, same_next}
use Rattle.feed_kbart.proofs.stored_text.has_same_texts.Goals as goal

pub returns-then-ne : goal.returns-then-ne
returns-then-ne c =
    let first = c.split_text.result.0.now in
    let second = c.split_text-in-loop-compared.result.0.now in
    let unlike : pointwise eqb first second ≡ false = not-true _ (sym c.ne.ensures ∙ c.if-ne.true) in (
      λ no. absurd (cc no),
      λ whole. absurd (differ_here c.args.count c.loop-compared._compared c.loop-compared.left.now c.loop-compared.right.now _ c.loop-compared-test.true c.loop-compared.invariant
          (λ same. cc (sym unlike ∙ (bytes_decides first second).1 (c.split_text.ensures.front ∙ same ∙ sym c.split_text-in-loop-compared.ensures.front))) whole),
    )

pub loop-compared-preserved : goal.loop-compared-preserved
loop-compared-preserved c =
    let first = c.split_text.result.0.now in
    let second = c.split_text-in-loop-compared.result.0.now in
    let alike : pointwise eqb first second ≡ true = not-false _ (sym c.ne.ensures ∙ c.if-ne.false) in
    rw (c.split_text.ensures.back, c.split_text-in-loop-compared.ensures.back)
    (same_next c.args.count c.loop-compared._compared c.loop-compared.left.now c.loop-compared.right.now _ c.loop-compared-test.true c.loop-compared.invariant
    (sym c.split_text.ensures.front ∙ (bytes_decides first second).0 alike ∙ c.split_text-in-loop-compared.ensures.front))

pub returns : goal.returns
returns c =
    let none : c.args.count - c.loop-compared._compared ≡ 0 = omega (arith, c.loop-compared-test.false) in
    let whole = rw none at c.loop-compared.invariant in (λ t. whole.0 (none_left c.loop-compared.left.now c.loop-compared.right.now), λ same. refl)
