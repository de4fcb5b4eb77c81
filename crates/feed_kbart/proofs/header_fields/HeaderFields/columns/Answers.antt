use Rattle.std.proofs.Common.{◌++◌, ◌∷◌, [], sym}
use Rattle.feed_kbart.proofs.header_fields.HeaderFields.columns.Goals as goal

pub returns : goal.returns
returns c fields is =
    let labels = rw c.deref.ensures.value at (c.add.ensures is.ended (sym is.place) is.labels) in
    rw is.are (c.columns.ensures (is.ended ++ c.args.self.now.field.items ∷ []) labels)
