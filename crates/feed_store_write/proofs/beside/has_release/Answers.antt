use Rattle.std.proofs.Common.{ap, option_copied, sym, ◌∙◌}
use Rattle.feed_store_model.specs.Layout.{release}
use Rattle.feed_store_write.proofs.Found.{table_found}
use Rattle.feed_store_write.proofs.beside.has_release.Goals as goal

pub returns-in-Some : goal.returns-in-Some
returns-in-Some c =
    table_found c.args.schema.now release c.in-Some.table.now c.is_release.result c.has_no_other_key.result (sym c.find_table.ensures ∙ ap option_copied c.in-Some.is) c.is_release.ensures
    c.has_no_other_key.ensures
