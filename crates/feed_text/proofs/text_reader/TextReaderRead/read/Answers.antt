use Rattle.std.proofs.Math.Logic.{∥∥₁_map}
use Rattle.feed_text.proofs.Readings.{read_more, read_kept}
use Rattle.feed_text.proofs.text_reader.TextReaderRead.read.Goals as goal

pub invariant_of-self : goal.invariant_of-self
invariant_of-self g c = record {
  read = ∥∥₁_map c.args.self.now.read (λ was. read_more g.G.Given.given _ _ _ _ _ was c.in-Ok.ensures.bytes.0 c.feed.ensures.checked);
}

pub invariant_of-self-in-Err-1 : goal.invariant_of-self-in-Err-1
invariant_of-self-in-Err-1 g c = record {
  read = ∥∥₁_map c.args.self.now.read (λ was. read_kept g.G.Given.given _ _ _ was c.in-Err.ensures.bytes);
}
