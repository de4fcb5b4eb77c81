use Rattle.std.proofs.Common.{◌∷◌, [], ◌++◌, ◌∙◌, sym}
use Rattle.std.proofs.Math.Logic.{∥∥₁_map}
use Rattle.csv.specs.Records.{fields_of}
use Rattle.feed_kbart.specs.Rows.{row_of}
use Rattle.feed_kbart.proofs.Readings.{indexed_more}
use Rattle.feed_kbart.proofs.indexed_store.IndexedStoreKeepRows.add.Goals as goal

pub invariant_of-self-2 : goal.invariant_of-self-2
invariant_of-self-2 c = record {
  held = λ whole. ∥∥₁_map (c.args.self.now.held (sym c.replace-whole.ensures.value ∙ whole)) (λ h.
      let row = row_of c.args.columns.now c.args.number (fields_of c.args.fields.now) in
      (h.0 ++ row ∷ [], c.in_ok-add.ensures h.0 h.1, indexed_more h.0 row _ _ _ (sym c.requires) c.in_ok-add-2.ensures h.2));
}

pub returns : goal.returns
returns c rows are =
    let row = row_of c.args.columns.now c.args.number (fields_of c.args.fields.now) in
    (c.in_ok-add.ensures rows are.0, indexed_more rows row _ _ _ (sym c.requires) c.in_ok-add-2.ensures are.1)
