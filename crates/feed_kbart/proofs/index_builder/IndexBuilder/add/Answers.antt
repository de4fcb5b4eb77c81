use Rattle.std.proofs.Common.{arith, refl}
use Rattle.std.proofs.lemmas.Result.{on_ok_weaker}
use Rattle.feed_kbart.proofs.Listed.{row_indexed}
use Rattle.feed_kbart.proofs.index_builder.IndexBuilder.add.Goals as goal

pub returns : goal.returns
returns c =
    on_ok_weaker c.merge_some.result (λ merged rows row few own are.
    let roomy = c.in_ok-make_room.ensures rows are in
    merged _ (row_indexed rows row c.make_room.new.self _ refl (rw own c.in_ok-add_entries.ensures.added)
    (omega (arith, c.saturating_add-self.ensures, roomy.next, few)) (rw own c.add_entries.ensures.printed) roomy)) c.merge_some.ensures
