use Rattle.std.proofs.Common.{ap, Some}
use Rattle.feed_parts.specs.Shown.{shown_parts}
use Rattle.feed_keep.specs.Shown.{shown_record}
use Rattle.feed_keep.proofs.BadFile.{good_file, bad_file, long_file, one_text}
use Rattle.feed_keep.proofs.bad_file.bad_of.Goals as goal
use Rattle.feed_keep.proofs.bad_file.bad_of.Goals.{in-Ok, in-Err-Bad, in-Err-TooLong, in-Err}

pub read_parts-requires : goal.read_parts-requires
read_parts-requires c =
    let one = rw c.deref.ensures.value at c.in-Some.ensures.some in
    let other = rw c.deref-2.ensures.value at c.in-Some-whole_reader.ensures.some in
    ap Some (one_text c.args.kept.now.size (shown_parts c.args.kept.now.parts.items) c.in-Some.check c.in-Some-whole_reader.read one.1 other.1)

pub returns : goal.returns
returns c =
    let r = shown_record c.args.kept.now in
    let text = c.in-Some.check in
    let file = rw c.deref.ensures.value at c.in-Some.ensures.some in
    elim c.match-read_parts.branch [
      | in-Ok w ↦ rw w.result-is (good_file r text w.in-Ok.field-0 file.0 file.1 (rw w.in-Ok.is at c.read_parts.ensures))
      | in-Err-Bad w ↦ rw w.result-is (bad_file r text w.in-Err-Bad.why file.0 file.1 (rw (w.in-Err-Bad.is, w.in-Err-Bad.field-0-is) at c.read_parts.ensures))
      | in-Err-TooLong w ↦ rw w.result-is (long_file r text file.1 (rw (w.in-Err-TooLong.is, w.in-Err-TooLong.field-0-is) at c.read_parts.ensures))
      | in-Err w ↦ rw w.result-is tt
    ]
