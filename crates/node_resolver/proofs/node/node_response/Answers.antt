use Rattle.std.proofs.Common.{sym, ap, ◌∙◌, inl, inr}
use Rattle.std.specs.Prelude.{is_some}
use Rattle.std.proofs.lemmas.Result.{IfOk-weaker}
use Rattle.httparse.specs.Grammar.{RequestHead}
use Rattle.feed_http_heads.specs.Requests.{HasHead}
use Rattle.node_resolver.specs.NodeResponses.{IsNodeMessageFor}
use Rattle.node_response.specs.FetchResponses.{IsFetchMessage}
use Rattle.node_resolver.proofs.Requests.{fetch_message}
use Rattle.node_resolver.proofs.node.node_response.Goals as goal

pub returns-in-Some-clause-message : goal.returns-in-Some-clause-message
returns-in-Some-clause-message c = IfOk-weaker c.fetch_response.result (IsFetchMessage c.args.keeps)
    (λ response. (head : RequestHead) → HasHead c.args.parsed.now.request head → IsNodeMessageFor c.args.keeps head response)
    (λ response message head has. elim (fetch_message c.args.keeps head _ response (sym (c.in-Some.ensures head has)) message) [
      | inl whole ↦ inl whole
      | inr begins ↦ inr (begins, (sym (c.lacks_host.ensures head has) ∙ c.if-lacks_host.false, ap is_some (sym (c.in-Some.ensures head has))))
    ])
    c.fetch_response.ensures.message
