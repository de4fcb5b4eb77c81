use Rattle.std.proofs.Common.{arith}
use Rattle.feed_model.specs.Content.{byte_in}
use Rattle.feed_model.proofs.Keeps.{none_missing}
use Rattle.feed_parts.specs.Shown.{shown_parts}
use Rattle.feed_parts.specs.Segments.{IsFull}
use Rattle.feed_parts.proofs.Counting.{missing_total}
use Rattle.feed_parts.proofs.reading.whole_reader.Goals as goal
use Rattle.feed_parts.proofs.reading.whole_reader.Goals.{then-not-are_within-via-then-not-are_within, then-not-are_within-via-else-not-are_within+then-byte_count-size}

pub returns-then-not-are_within-clause-none : goal.returns-then-not-are_within-clause-none
returns-then-not-are_within-clause-none c = λ full.
    elim c.then-not-are_within.branch [
      | then-not-are_within-via-then-not-are_within w ↦ let yes = c.are_within.ensures.1 full.within in let no = w.if-not-are_within.true in absurd (cc)
      | then-not-are_within-via-else-not-are_within+then-byte_count-size w ↦
          let parts = shown_parts c.args.parts.now in
          let none = (none_missing (byte_in parts) c.args.size).1 full.every in
          absurd (omega (arith, w.byte_count.ensures, w.if-byte_count-size, missing_total c.args.size parts full.within, none))
    ]

pub returns-clause-some : goal.returns-clause-some
returns-clause-some c =
    let parts = shown_parts c.args.parts.now in
    let within = c.are_within.ensures.0 c.if-not-are_within.false in
    let every = (none_missing (byte_in parts) c.args.size).0 (omega (arith, c.byte_count.ensures, c.if-byte_count-size.false, missing_total c.args.size parts within)) in
    (record { within = within; every = every }, c.new.ensures.text c.args.size within every)
