use Rattle.std.proofs.Common.{◌++◌, map}
use Rattle.node_hits.proofs.Loops.{mapped_at, mapped_within}
use Rattle.node_pages.specs.Partial.{names_from}
use Rattle.node_pages.proofs.NamesNext.{names_next}
use Rattle.node_pages.proofs.partial.put_names.Goals as goal

pub loop-place-preserved : goal.loop-place-preserved
loop-place-preserved c =
    names_next c.args.site.now (map (λ name. name.now) c.args.names.now) c.loop-place.place c.index-names-place.result.now
    (mapped_within (λ name. name.now) c.args.names.now c.loop-place.place c.loop-place-test.true)
    (mapped_at (λ name. name.now) c.args.names.now c.loop-place.place c.index-names-place.result c.index-names-place.is)
    (c.args.out.now.items ++ names_from c.args.site.now 0 (map (λ name. name.now) c.args.names.now)) c.loop-place.out.items c.put_name.new.out.items
    c.loop-place.invariant c.in_ok-put_name.ensures
