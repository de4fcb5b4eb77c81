use Rattle.std.proofs.Common.{◌++◌, ap, ◌∙◌}
use Rattle.feed_openurl.proofs.Parts.{number_found_by, word_passed}
use Rattle.feed_openurl.proofs.numbers.push_numbers.Goals as goal

pub loop-place-preserved-then-skipped-gt0 : goal.loop-place-preserved-then-skipped-gt0
loop-place-preserved-then-skipped-gt0 c =
    ap (λ l. c.loop-place.numbers.items ++ l) (word_passed c.args.words.now c.loop-place.place c.loop-place.skipped c.loop-place-test.true c.if-skipped-gt0.true)
    ∙ c.loop-place.invariant

pub loop-place-preserved : goal.loop-place-preserved
loop-place-preserved c =
    number_found_by c.loop-place.numbers.items c.push_first.new.numbers.items c.args.words.now c.loop-place.place c.loop-place.skipped c.in_ok-skipped.skipped _
    c.loop-place-test.true c.if-skipped-gt0.false c.in_ok-skipped.ensures.number c.in_ok-skipped.ensures.more c.loop-place.invariant
