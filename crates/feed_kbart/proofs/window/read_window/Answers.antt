use Rattle.std.proofs.Common.{Some, arith, refl}
use Rattle.csv.specs.Records.{fields_of}
use Rattle.feed_text.specs.Records.{drop_mark}
use Rattle.feed_kbart.proofs.Cuts.{length-drop_mark}
use Rattle.feed_kbart.proofs.Takes.{taken_end, taken_first, taken_full, taken_next}
use Rattle.feed_kbart.proofs.window.read_window.Goals as goal

pub loop-init : goal.loop-init
loop-init g c =
    let made = c.in_ok-reader.ensures in
    record {
      ready = made.ready;
      taken = taken_first g.K.KeepRows.keeps (λ s. Some s.now) c.in_ok-reader.reader (drop_mark c.args.window.now) c.args.list.now (made.left c.args.window.now refl);
    }

pub loop-preserved : goal.loop-preserved
loop-preserved g c =
    let read = rw (c.in-Ok-true.is, c.in-Ok-true.field-0-test) at c.read_record.ensures.record in
    let next = rw (c.in-Ok-true.is, c.in-Ok-true.field-0-test) at c.read_record.ensures.next in
    record {
      ready = next refl;
      taken = taken_next g.K.KeepRows.keeps (λ s. Some s.now) c.loop.reader c.read_record.new.reader (drop_mark c.args.window.now) c.loop.counter c.args.list.now c.loop.list c.add.new.self
          (fields_of c.read_record.new.fields) c.loop.invariant.taken read c.in_ok-add-in-Ok-true.ensures;
    }

pub returns-in-Ok-false : goal.returns-in-Ok-false
returns-in-Ok-false g c =
    let read = rw (c.in-Ok-false.is, c.in-Ok-false.field-0-test) at c.read_record.ensures.record in
    taken_end g.K.KeepRows.keeps (λ s. Some s.now) c.loop.reader c.read_record.new.reader (drop_mark c.args.window.now) c.loop.counter c.args.list.now c.loop.list
    (fields_of c.read_record.new.fields) c.loop.invariant.taken read

pub returns : goal.returns
returns g c =
    taken_full g.K.KeepRows.keeps (λ s. Some s.now) c.loop.reader (drop_mark c.args.window.now) c.loop.counter c.args.list.now c.loop.list c.loop.invariant.taken
    (omega (arith, length-drop_mark c.args.window.now, c.loop-test.false))
