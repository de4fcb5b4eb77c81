use Rattle.std.proofs.Common.{◌≡◌, ◌<◌, ◌∙◌, ◌++◌, ◌∷◌, [], Some, ap, arith, length, length-append, length-take-le, sym, take, take_all}
use Rattle.csv.specs.Records.{fields_of}
use Rattle.feed_kbart.specs.Columns.{cell}
use Rattle.feed_kbart.specs.Joined.{joined}
use Rattle.feed_kbart.proofs.Joined.{fields-next, joined-more, joined-one}
use Rattle.feed_kbart.proofs.header_fields.HeaderFields.add.Goals as goal

pub loop-place-init : goal.loop-place-init
loop-place-init c fields some is =
    let last = c.args.self.now.field.items in
    let piece = fields_of c.args.piece.now in
    record {
      ended = is.ended;
      are = joined-one fields is.ended last piece is.are some ∙ ap (λ l. is.ended ++ l ∷ []) (sym (c.in_ok-extend_from_slice.ensures.items ∙ ap (λ l. last ++ l) c.cell_of.ensures));
      place = is.place;
      labels = is.labels;
    }

pub loop-place-preserved : goal.loop-place-preserved
loop-place-preserved c fields some is =
    let piece = fields_of c.args.piece.now in
    let place = c.loop-place.place in
    let within : place < length piece = omega (arith, c.loop-place-test.true, c.len-place-end.ensures) in
    let size : length (take place piece) ≡ place = length-take-le place piece (omega (arith, within)) in
    let first : 0 < length (take place piece) = omega (arith, size, c.loop-place.auto.place) in
    let many : 0 < length fields = omega (arith, ap length is.are, length-append is.ended (c.args.self.now.field.items ∷ [])) in
    rw (fields-next place piece within, joined-more fields (take place piece) (cell (Some place) piece ∷ []) many first)
    (rw c.cell_of-in-loop-place.ensures at (c.in_ok-add_field.ensures (joined fields (take place piece)) (c.loop-place.invariant fields some is)))

pub returns : goal.returns
returns c fields some is =
    let piece = fields_of c.args.piece.now in
    let all : take c.loop-place.place piece ≡ piece = take_all c.loop-place.place piece (omega (arith, c.loop-place-test.false, c.len-place-end.ensures)) in
    rw all at (c.loop-place.invariant fields some is)
