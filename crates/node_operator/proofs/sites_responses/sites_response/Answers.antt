use Rattle.std.proofs.Common.{◌∙◌, sym}
use Rattle.feed_http_heads.specs.Requests.{HasHead}
use Rattle.node_operator.proofs.Connections.{refused_plain, sites_message}
use Rattle.node_operator.proofs.sites_responses.sites_response.Goals as goal

pub returns-in-Some-clause-message : goal.returns-in-Some-clause-message
returns-in-Some-clause-message c =
    let reply = c.in-Some.refused in
    sites_message c.response.result c.args.keeps c.is_head.result reply (HasHead c.args.parsed.now.request) c.is_head.ensures
    (λ head has. refused_plain c.args.token.now c.args.has_folder c.args.is_reloading head reply (sym c.in-Some.is ∙ c.in_ok-refused.ensures head has))
    c.response.ensures.message
