use Rattle.std.proofs.Common.{refl}
use Rattle.feed_kbart.proofs.list_records.ListRecords.finish.Goals as goal

pub returns-in-Start : goal.returns-in-Start
returns-in-Start g c records was =
    let start = rw c.in-Start.is at was in rw start.0 refl

pub returns-in-Bad : goal.returns-in-Bad
returns-in-Bad g c records was =
    let (header, others, are, bad) = rw c.in-Bad.is at was in rw are bad

pub returns-in-Good : goal.returns-in-Good
returns-in-Good g c records was =
    let table = rw c.in-Good.is at was in
    (rw table.are table.good, rw table.are table.kept)
