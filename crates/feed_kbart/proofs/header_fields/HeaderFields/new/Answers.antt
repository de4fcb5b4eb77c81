use Rattle.std.proofs.Common.{[], ◌∷◌, ap, refl, sym}
use Rattle.feed_kbart.proofs.header_fields.HeaderFields.new.Goals as goal

pub returns : goal.returns
returns c = record { ended = []; are = ap (λ l. l ∷ []) (sym c.new-2.ensures.items); place = refl; labels = c.new.ensures }
