use Rattle.std.specs.List.{concat}
use Rattle.feed_openurl.proofs.Steps.{text_next}
use Rattle.feed_openurl.proofs.number.joined.Goals as goal

pub loop-word-preserved : goal.loop-word-preserved
loop-word-preserved c =
    let word = c.text.ensures in
    let written = c.in_ok-extend_from_slice.ensures.items in
    text_next c.args.words.now c.loop-word.word-index c.word-item.result c.loop-word.text.items c.extend_from_slice.new.self.items (concat c.args.words.now) c.loop-word-test.true c.word-item.is
    (cc) c.loop-word.invariant
