use Rattle.std.proofs.Common.{◌∙◌, ap, sym}
use Rattle.std.specs.Prelude.{unwrap_or}
use Rattle.node_site.specs.Hosts.{is_link}
use Rattle.node_hits.specs.Hits.{ReleaseHitValue, page_text}
use Rattle.node_hits.proofs.HitsMade.{own_article_is_link}
use Rattle.node_hits.proofs.hits.ReleaseHit.has_link.Goals as goal

pub returns-then-is_some : goal.returns-then-is_some
returns-then-is_some c =
    own_article_is_link c.self.inside.article c.self.inside.site.now c.self.inside.lookup.now.cited c.self.inside.name.now c.self.inside.row.now
    (page_text c.args.self.now) (sym c.is_some.ensures ∙ c.if-is_some.true) c.self.invariant.1
    ∙ ap (λ (found : ReleaseHitValue). is_link (unwrap_or found.article (page_text c.args.self.now))) c.self.view_is
