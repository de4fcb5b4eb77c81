use Rattle.std.proofs.Common.{ap, arith, get_or, length, refl, sym, ◌∙◌, []}
use Rattle.std.proofs.lemmas.Result.{on_ok_weaker}
use Rattle.csv.specs.Records.{fields_of}
use Rattle.feed_text.specs.Records.{drop_mark, records_in}
use Rattle.feed_kbart.proofs.Joined.{some_fields}
use Rattle.feed_kbart.proofs.window.read_piece.Goals as goal

pub returns-in-Ok-true : goal.returns-in-Ok-true
returns-in-Ok-true g c =
    let read = rw (c.in-Ok-true.is, c.in-Ok-true.field-0-test) at c.read_record.ensures.record in
    let (left, has, shorter, lines) = read (drop_mark c.args.part.now) (c.in_ok-reader.ensures.left c.args.part.now refl) in
    on_ok_weaker c.add_piece.result (λ added records begun fields one was.
    let same = ap (λ all. get_or all 0 []) (sym lines ∙ one) in
    rw same at (added records begun (some_fields (drop_mark c.args.part.now) (fields_of c.read_record.new.fields) (records_in left) lines) was)) c.add_piece.ensures

pub returns-in-Ok-false : goal.returns-in-Ok-false
returns-in-Ok-false g c records begun fields one was =
    let read = rw (c.in-Ok-false.is, c.in-Ok-false.field-0-test) at c.read_record.ensures.record in
    let none = read (drop_mark c.args.part.now) (c.in_ok-reader.ensures.left c.args.part.now refl) in
    absurd (omega (arith, ap length (sym none ∙ one)))
