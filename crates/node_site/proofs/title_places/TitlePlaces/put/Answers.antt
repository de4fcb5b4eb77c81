use Rattle.std.proofs.Common.{ap, ◌∙◌}
use Rattle.std.specs.Option.{option_and_then}
use Rattle.node_site.specs.Indexes.{place_at}
use Rattle.node_site.proofs.ByteKeys.{adds_title}
use Rattle.node_site.proofs.title_places.TitlePlaces.put.Goals as goal

pub returns : goal.returns
returns c =
    adds_title c.args.self.now (record { packages = c.remove.new.self }) (record { packages = c.insert.new.self }) c.or_none-titles.result c.put.new.self _ c.args.package_id.now
    c.args.id.now c.args.place
    c.in_ok-from_slice.ensures.items c.remove.ensures.updates (λ id. c.or_none-titles.ensures id ∙ ap (option_and_then (place_at id)) c.remove.ensures.value) c.in_ok-put.ensures
    c.in_ok-insert.ensures.updates
