use Rattle.std.proofs.Common.{◌≡◌, ◌<◌, ◌∙◌, ℕ, List, Option, Vec, ap, arith, length, map, rules, take_all}
use Rattle.std.specs.declared.alloc.Global.{Global}
use Rattle.csv.specs.Records.{partial_of}
use Rattle.feed_kbart.specs.Columns.{cell}
use Rattle.feed_kbart.specs.Labels.{label_count}
use Rattle.feed_kbart.proofs.Cells.{cell-pushed, cells-same}
use Rattle.feed_kbart.proofs.long_row.LongRow.into_record.Goals as goal

pub loop-cell-init : goal.loop-cell-init
loop-cell-init c = record { fields = c.new-record.ensures.fields; partial = c.new-record.ensures.partial }

pub loop-cell-preserved : goal.loop-cell-preserved
loop-cell-preserved c =
    let cells = c.args.self.cells in
    let within : c.loop-cell.cell-index < length cells = omega (arith, c.loop-cell-test.true, c.type_inv.cell-items) in
    record {
      fields = cell-pushed cells c.loop-cell.cell-index c.cell-item.result _ _ (partial_of c.loop-cell.«record») c.deref.result.now within c.loop-cell.invariant.partial
          c.deref.ensures.value c.loop-cell.invariant.fields c.in_ok-push_field.ensures.fields;
      partial = c.in_ok-push_field.ensures.partial;
    }

pub returns : goal.returns
returns c columns fields wide is =
    let row = c.args.self in
    let few : length row.cells ≡ label_count = search rules in
    c.loop-cell.invariant.fields
    ∙ ap (map (λ (v : Vec ℕ Global). v.items)) (take_all c.loop-cell.cell-index row.cells (omega (arith, few, c.loop-cell-test.false)))
    ∙ cells-same row.cells row.columns fields (omega (arith, few, wide, ap length is.same)) (λ slot col d within. is.cells slot col d (omega (arith, within, few)))
    ∙ ap (λ (cs : List (Option ℕ)). map (λ column. cell column fields) cs) is.same
