use Rattle.std.proofs.Common.{List, ℕ, subst}
use Rattle.std.proofs.lemmas.Result.{IfOk-weaker}
use Rattle.httparse.specs.Grammar.{RequestHead}
use Rattle.feed_http_heads.specs.Requests.{HasHead}
use Rattle.feed_http.specs.Requests.{IsNamedBy}
use Rattle.feed_http.proofs.serving.request.name.Goals as goal

pub returns-clause-named : goal.returns-clause-named
returns-clause-named c = IfOk-weaker c.name_in.result (IsNamedBy c.target.result.now) (λ named. (head : RequestHead) → HasHead c.args.request.now head → IsNamedBy head.target named)
    (λ named is head has. subst (λ (t : List ℕ). IsNamedBy t named) (c.target.ensures head has) is) c.name_in.ensures.named
