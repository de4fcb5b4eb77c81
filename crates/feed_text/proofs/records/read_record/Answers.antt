use Rattle.std.proofs.Common.{◌∙◌}
use Rattle.csv.specs.Records.{fields_of}
use Rattle.feed_text.proofs.CsvRecords.{next_record_read}
use Rattle.feed_text.proofs.records.read_record.Goals as goal

pub returns-in-Ok-clause-record : goal.returns-in-Ok-clause-record
returns-in-Ok-clause-record g c text left =
    let is = c.requires in
    let reads = rw c.in-Ok.is at c.read_byte_record.ensures.reads in
    next_record_read g.R.Read.remaining c.args.reader.now c.read_byte_record.new.self c.in-Ok.found (fields_of c.read_byte_record.new.row) text
    is.config left (reads is.trims is.ready)

pub returns-in-Ok-clause-next : goal.returns-in-Ok-clause-next
returns-in-Ok-clause-next g c found =
    let is = c.requires in
    let on = rw c.in-Ok.is at c.read_byte_record.ensures.reads_on in
    let goes = on found in
    record { trims = goes.1 ∙ is.trims; config = goes.0 ∙ is.config; flexible = goes.2 ∙ is.flexible; ready = (goes.4 is.ready).0 }
