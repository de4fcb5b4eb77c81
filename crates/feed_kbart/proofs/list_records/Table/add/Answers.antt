use Rattle.std.proofs.Common.{◌≡◌, ◌<◌, ◌+◌, ◌++◌, [], ◌∷◌, ℕ, List, Option, Some, None, true, false, ap, arith, length, sym, ◌∙◌}
use Rattle.std.specs.Prelude.{is_some}
use Rattle.std.proofs.lemmas.Bool.{true≢false}
use Rattle.std.proofs.lemmas.List.{length-append}
use Rattle.csv.specs.Records.{fields_of}
use Rattle.feed_limits.specs.Limits.{file_limit}
use Rattle.feed_kbart.specs.Columns.{columns_of}
use Rattle.feed_kbart.specs.Holdings.{holdings_from}
use Rattle.feed_kbart.specs.Joined.{joined}
use Rattle.feed_kbart.specs.ListRecords.{IsLong}
use Rattle.feed_kbart.specs.Stored.{in_order}
use Rattle.feed_kbart.specs.declared.long_row.LongRow.{LongRow}
use Rattle.feed_kbart.proofs.Joined.{joined-none}
use Rattle.feed_kbart.proofs.Tabled.{holdings_from-append}
use Rattle.feed_kbart.proofs.list_records.Table.add.Goals as goal

-- no piece was added
no_piece : (columns : List (Option ℕ)) (begun : List (List ℕ)) (long : Option LongRow) → is_some long ≡ false → IsLong columns begun long → begun ≡ [] ∷ []
no_piece columns begun None none is = is
no_piece columns begun (Some row) none is = absurd (true≢false none)

pub returns : goal.returns
returns g c records begun few some was =
    let columns = columns_of was.header in
    let first = no_piece (in_order columns) begun c.args.self.now.long (sym c.is_some.ensures ∙ c.if-is_some.false) was.long in
    let fields = fields_of c.args.fields.now in
    let same : joined begun fields ≡ fields = ap (λ l. joined l fields) first ∙ joined-none fields some in
    let small : length was.others < file_limit = omega (arith, few, ap length was.are) in
    let number : c.args.self.now.number ≡ 2 + length was.others = omega (arith, was.number) in
    let kept = c.in_ok-add.ensures (holdings_from columns 2 was.others) was.kept in
    rw same (record {
      header = was.header;
      others = was.others ++ fields ∷ [];
      are = ap (λ l. l ++ fields ∷ []) was.are;
      good = was.good;
      columns = was.columns;
      number = omega (arith, c.saturating_add-self.ensures, number, small, length-append was.others (fields ∷ []));
      kept = rw (← holdings_from-append columns 2 was.others (fields ∷ [])) (rw (was.columns, number) at kept);
      long = rw first at was.long;
    })
