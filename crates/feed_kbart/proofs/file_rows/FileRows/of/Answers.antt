use Rattle.std.proofs.Common.{refl}
use Rattle.feed_kbart.proofs.Readings.{rows_of_store}
use Rattle.feed_kbart.proofs.file_rows.FileRows.of.Goals as goal

pub returns : goal.returns
returns c held is = rw (c.in_ok-rows.ensures, rows_of_store held.rows c.args.kept.rows is.0, is.1) refl
