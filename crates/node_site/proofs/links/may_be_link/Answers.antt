use Rattle.url.proofs.PathLemmas.{bytes_from_type}
use Rattle.node_site.proofs.Proxying.{long_is_unsafe}
use Rattle.node_site.proofs.links.may_be_link.Goals as goal

pub returns-then-target-gt-URL_LIMIT : goal.returns-then-target-gt-URL_LIMIT
returns-then-target-gt-URL_LIMIT c =
    long_is_unsafe c.args.prefix.now c.args.target.now (bytes_from_type c.args.target.now c.type_inv.target) c.if-target-gt-URL_LIMIT.true
