use Rattle.std.proofs.Common.{◌∙◌, ◌++◌, ◌∷◌, [], ap, arith, sym}
use Rattle.std.proofs.lemmas.List.{length-append}
use Rattle.feed_kbart.proofs.header_fields.HeaderFields.add_field.Goals as goal

pub returns : goal.returns
returns c fields is =
    let last = c.args.self.now.field.items in
    record {
      ended = is.ended ++ last ∷ [];
      are = ap (λ l. l ++ c.args.field.now ∷ []) is.are
          ∙ ap (λ l. (is.ended ++ last ∷ []) ++ l ∷ []) (sym (c.in_ok-extend_from_slice.ensures.items ∙ ap (λ l. l ++ c.args.field.now) c.clear.ensures.items));
      place = omega (arith, c.in-Some.ensures.1, is.place, length-append is.ended (last ∷ []));
      labels = rw c.deref.ensures.value at (c.add.ensures is.ended (sym is.place) is.labels);
    }
