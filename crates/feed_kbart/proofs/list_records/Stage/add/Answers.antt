use Rattle.std.proofs.Common.{◌++◌, [], ◌∷◌, ap}
use Rattle.std.proofs.lemmas.Result.{on_ok_weaker}
use Rattle.csv.specs.Records.{fields_of}
use Rattle.feed_kbart.specs.Joined.{joined}
use Rattle.feed_kbart.proofs.list_records.Stage.add.Goals as goal

pub returns-in_ok-self-in-Start : goal.returns-in_ok-self-in-Start
returns-in_ok-self-in-Start g c records begun few some was =
    let start = rw (c.in-Start.is, c.in-Start.header-is) at was in
    rw start.0 (c.in_ok-self-in-Start.ensures begun some start.1)

pub returns-in-Bad : goal.returns-in-Bad
returns-in-Bad g c records begun few some was =
    let fields = joined begun (fields_of c.args.fields.now) in
    let (header, others, are, bad) = rw c.in-Bad.is at was in
    rw c.in-Bad.is (header, others ++ fields ∷ [], ap (λ l. l ++ fields ∷ []) are, bad)

pub returns-in-Good : goal.returns-in-Good
returns-in-Good g c =
    on_ok_weaker c.add.result (λ added records begun few some was. added records begun few some (rw (c.in-Good.is, c.in-Good.table-is) at was)) c.add.ensures
