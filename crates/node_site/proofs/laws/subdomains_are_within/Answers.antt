use Rattle.node_site.proofs.Within.{domain_is_within, subdomain_is_within}
use Rattle.node_site.proofs.laws.subdomains_are_within.Goals as goal

pub returns : goal.returns
returns c = λ domain front. (domain_is_within domain, subdomain_is_within domain front)
