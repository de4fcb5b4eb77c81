use Rattle.csv.specs.Records.{fields_of}
use Rattle.feed_kbart.specs.Joined.{joined}
use Rattle.feed_kbart.proofs.list_records.Stage.end_header.Goals as goal

pub returns : goal.returns
returns g c begun some is =
    let fields = joined begun (fields_of c.args.piece.now) in
    c.after_header.ensures fields (c.columns.ensures fields (c.in_ok-add.ensures begun some is))
