use Rattle.std.proofs.Common.{List, ℕ, subst, sym, ◌∙◌}
use Rattle.node_sites.specs.declared.node_sites.NamedSite.{NamedSite}
use Rattle.node_sites.specs.NodeSites.{AddsNamed}
use Rattle.node_sites.proofs.SitesTaken.{on_ok, other_site_added, own_site_added}
use Rattle.node_sites.proofs.sites_read.add_site.Goals as goal

pub returns-then-not-is_for_others-clause-added : goal.returns-then-not-is_for_others-clause-added
returns-then-not-is_for_others-clause-added c =
    let old = c.args.sites.now in
    let new = c.add.new.self in
    let named : NamedSite = record { site = c.args.site; name = c.in-Ok.name } in
    on_ok c.add.result
    (λ adds. own_site_added old new c.args.name.now named c.in-Ok.ensures (sym c.is_for_others.ensures ∙ c.if-not-is_for_others.true)
    (subst (λ (host : List ℕ). AddsNamed old host named new) c.as_bytes.ensures.value adds)) c.add.ensures.added

pub returns-in-Ok-set_others-clause-added : goal.returns-in-Ok-set_others-clause-added
returns-in-Ok-set_others-clause-added c =
    other_site_added c.args.sites.now c.set_others.new.self c.args.name.now (record { site = c.args.site; name = c.in-Ok.name }) c.in-Ok.ensures
    (sym c.is_for_others.ensures ∙ c.if-not-is_for_others.false) c.in-Ok-set_others.ensures.set
