use Rattle.std.proofs.Common.{◌+◌, ◌++◌, drop, sym, ap, ◌∙◌}
use Rattle.std.proofs.lemmas.List.{drop_more}
use Rattle.feed_openurl.specs.Numbers.{words_from}
use Rattle.feed_openurl.proofs.words.words.Goals as goal

pub loop-byte-preserved : goal.loop-byte-preserved
loop-byte-preserved c =
    c.in_ok-take_byte.ensures (drop (c.loop-byte.byte-index + 1) c.args.value.now)
    ∙ ap (λ l. c.loop-byte.words.items ++ words_from c.loop-byte.begun.items l) (sym (drop_more c.args.value.now c.loop-byte.byte-index 0 c.loop-byte-test.true))
    ∙ c.loop-byte.invariant
