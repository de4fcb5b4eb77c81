use Rattle.std.proofs.Common.{◌∙◌, sym}
use Rattle.node_operator.proofs.Connections.{sites_says}
use Rattle.node_operator.proofs.sites_responses.respond_about_sites.Goals as goal

pub returns-clause-says : goal.returns-clause-says
returns-clause-says c =
    let found = c.in-Some-parsed.ensures in
    sites_says c.args.received.now.bytes.now c.args.keeps found.head c.in_ok-response.response found.begins
    (sym (c.is_for_sites.ensures found.head found.has) ∙ c.if-not-is_for_sites.false) (c.in_ok-response.ensures.message found.head found.has)
