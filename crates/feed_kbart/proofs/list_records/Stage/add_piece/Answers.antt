use Rattle.std.proofs.lemmas.Result.{on_ok_weaker}
use Rattle.feed_kbart.proofs.list_records.Stage.add_piece.Goals as goal

pub returns-in-Start : goal.returns-in-Start
returns-in-Start g c =
    on_ok_weaker c.add.result (λ added records begun some was.
    let start = rw (c.in-Start.is, c.in-Start.header-is) at was in
    (start.0, added begun some start.1)) c.add.ensures

pub returns-in-Bad : goal.returns-in-Bad
returns-in-Bad g c records begun some was = rw c.in-Bad.is (rw c.in-Bad.is at was)

pub returns-in-Good : goal.returns-in-Good
returns-in-Good g c =
    on_ok_weaker c.add_piece.result (λ added records begun some was. added records begun some (rw (c.in-Good.is, c.in-Good.table-is) at was)) c.add_piece.ensures
