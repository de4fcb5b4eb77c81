use Rattle.std.proofs.Common.{◌++◌, [], ap, ◌∙◌}
use Rattle.feed_openurl.specs.Numbers.{onto, sign_onto, unlabelled}
use Rattle.feed_openurl.proofs.Parts.{word_ended_by, word_joined_by, word_skipped}
use Rattle.feed_openurl.proofs.words.take_byte.Goals as goal

pub returns-then-is_skipped : goal.returns-then-is_skipped
returns-then-is_skipped c = word_skipped c.args.words.now.items c.args.begun.now.items c.args.byte (cc)

pub returns-then-is_word_byte : goal.returns-then-is_word_byte
returns-then-is_word_byte c =
    word_joined_by c.args.words.now.items c.args.begun.now.items c.push.new.self.items c.args.byte (cc) (cc) c.in_ok-push.ensures.items

pub returns : goal.returns
returns c =
    word_ended_by c.args.words.now.items c.push_both.new.words.items c.args.begun.now.items c.clear.new.self.items c.args.byte (cc) (cc)
    (c.in_ok-push_both.ensures ∙ ap (λ r. c.args.words.now.items ++ onto (unlabelled r) (sign_onto c.args.byte [])) c.deref-2.ensures.value)
    c.clear.ensures.items
