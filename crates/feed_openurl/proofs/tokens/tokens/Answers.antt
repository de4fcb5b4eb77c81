use Rattle.std.proofs.Common.{◌+◌, ◌++◌, drop, sym, ap, ◌∙◌}
use Rattle.std.proofs.lemmas.List.{drop_more}
use Rattle.feed_openurl.specs.Dates.{tokens_from}
use Rattle.feed_openurl.proofs.tokens.tokens.Goals as goal

pub loop-byte-preserved : goal.loop-byte-preserved
loop-byte-preserved c =
    c.in_ok-take_byte.ensures (drop (c.loop-byte.byte-index + 1) c.args.text.now)
    ∙ ap (λ l. c.loop-byte.tokens.items ++ tokens_from c.loop-byte.run.items l) (sym (drop_more c.args.text.now c.loop-byte.byte-index 0 c.loop-byte-test.true))
    ∙ c.loop-byte.invariant
