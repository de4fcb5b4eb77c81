use Rattle.std.proofs.Common.{refl}
use Rattle.node_site.specs.Proxies.{proxied}
use Rattle.node_hits.proofs.laws.links_are_proxied.Goals as goal

pub returns : goal.returns
unfolding proxied
returns c = λ site today query name hit. refl
