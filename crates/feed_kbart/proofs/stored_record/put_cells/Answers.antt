use Rattle.std.proofs.lemmas.Result.{on_ok_weaker}
use Rattle.csv.specs.Records.{fields_of}
use Rattle.feed_kbart.proofs.Drafts.{put_both, short_both}
use Rattle.feed_kbart.proofs.stored_record.put_cells.Goals as goal

pub returns-clause-added : goal.returns-clause-added
returns-clause-added c =
    let fields = fields_of c.args.fields.now in
    on_ok_weaker c.put_cells_in-2.result
    (λ added. put_both c.args.columns.now fields c.args.block.now.items c.put_cells_in.new.block.items c.put_cells_in-2.new.block.items
    (rw (c.split_at.ensures.front, c.in_order-columns.ensures) at c.in_ok-put_cells_in.ensures.added)
    (rw (c.split_at.ensures.back, c.in_order-columns.ensures) at added)) c.put_cells_in-2.ensures.added

pub returns-clause-short : goal.returns-clause-short
returns-clause-short c =
    on_ok_weaker c.put_cells_in-2.result
    (λ short. short_both c.args.columns.now (fields_of c.args.fields.now)
    (rw (c.split_at.ensures.front, c.in_order-columns.ensures) at c.in_ok-put_cells_in.ensures.short)
    (rw (c.split_at.ensures.back, c.in_order-columns.ensures) at short)) c.put_cells_in-2.ensures.short
