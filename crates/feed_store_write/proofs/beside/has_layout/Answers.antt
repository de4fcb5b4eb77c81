use Rattle.std.proofs.Common.{ap, option_copied, sym, ◌∙◌}
use Rattle.feed_store_model.specs.Layout.{layout}
use Rattle.feed_store_write.proofs.Found.{table_found}
use Rattle.feed_store_write.proofs.beside.has_layout.Goals as goal

pub returns-in-Some : goal.returns-in-Some
returns-in-Some c =
    table_found c.args.schema.now layout c.in-Some.table.now c.is_layout.result c.has_no_other_key.result (sym c.find_table.ensures ∙ ap option_copied c.in-Some.is) c.is_layout.ensures
    c.has_no_other_key.ensures
