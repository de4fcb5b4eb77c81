use Rattle.std.proofs.Common.{sym, ◌∙◌}
use Rattle.node_site.proofs.ByteKeys.{adds_place}
use Rattle.node_site.proofs.places.Places.put.Goals as goal

pub returns-in_ok-insert : goal.returns-in_ok-insert
returns-in_ok-insert c =
    adds_place c.args.self.now (record { places = c.insert.new.self }) _ c.args.key.now c.args.place c.in_ok-from_slice.ensures.items
    (sym c.contains_key.ensures ∙ c.if-not-contains_key.true) c.in_ok-insert.ensures.updates
