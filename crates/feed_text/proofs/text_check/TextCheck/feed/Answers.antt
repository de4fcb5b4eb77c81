use Rattle.std.proofs.Common.{arith, length-append}
use Rattle.feed_text.proofs.Fronts.{front_more}
use Rattle.feed_text.proofs.text_check.TextCheck.feed.Goals as goal

pub returns-clause-checked : goal.returns-clause-checked
returns-clause-checked c text is = record {
  utf8 = c.feed.ensures text is.utf8;
  size = omega (arith, is.size, length-append text c.args.bytes.now);
  front = front_more text c.args.bytes.now c.args.self.now.front c.with_next-self.result c.min.result
      (omega (arith, c.min.ensures, is.size)) is.front c.with_next-self.ensures;
}
