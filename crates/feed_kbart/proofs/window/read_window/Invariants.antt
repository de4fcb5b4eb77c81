use Rattle.std.proofs.Common.{Some}
use Rattle.feed_text.specs.Reader.{IsRecordReader}
use Rattle.feed_text.specs.Records.{drop_mark}
use Rattle.feed_kbart.proofs.Takes.{AreTaken}
use Rattle.feed_kbart.proofs.window.read_window.Given as goal

-- the records before the counter were added
abbrev pub invariant-loop : goal.invariant-loop
invariant-loop g l = record {
  ready : IsRecordReader l.reader;
  taken : AreTaken g.K.KeepRows.keeps (λ s. Some s.now) l.reader (drop_mark l.fn.window) l.counter l.fn.list l.list;
}
