use Rattle.std.proofs.Common.{◌+◌, ◌++◌, drop, get_or}
use Rattle.std.specs.List.{flat_map}
use Rattle.std.proofs.lemmas.List.{drop_all, drop_more}
use Rattle.feed_xml.specs.Characters.{allowed}
use Rattle.feed_xml.specs.Marks.{escape_byte}
use Rattle.feed_xml.proofs.TextsWritten.{all_written, byte_written}
use Rattle.feed_xml.proofs.characters.put_text.Goals as goal

pub loop-byte-preserved : goal.loop-byte-preserved
loop-byte-preserved c =
    byte_written (c.args.out.now.items ++ flat_map escape_byte (allowed c.args.text.now)) c.loop-byte.out.items c.put_allowed_byte.new.out.items
    c.loop-byte.place c.place_after-place.result (get_or c.args.text.now c.loop-byte.byte-index 0) (drop c.loop-byte.byte-index c.args.text.now)
    (drop (c.loop-byte.byte-index + 1) c.args.text.now) (drop_more c.args.text.now c.loop-byte.byte-index 0 c.loop-byte-test.true)
    c.in_ok-put_allowed_byte.ensures c.place_after-place.ensures c.loop-byte.invariant

pub returns : goal.returns
returns c =
    all_written c.args.out.now.items c.loop-byte.out.items c.loop-byte.place c.args.text.now (drop c.loop-byte.byte-index c.args.text.now)
    (drop_all c.loop-byte.byte-index c.args.text.now c.loop-byte-test.false) c.loop-byte.invariant
