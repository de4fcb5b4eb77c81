use Rattle.std.proofs.Common.{◌≡◌, ◌∙◌, ap}
use Rattle.std.proofs.lemmas.Result.{IfOk-weaker}
use Rattle.feed_answer.specs.QueryValue.{QueryValue}
use Rattle.node_hits.specs.Shares.{shares_of}
use Rattle.node_resolver.specs.Answers.{row_counts, shares_in, sited_in}
use Rattle.node_resolver.proofs.shares.shares_among.Goals as goal

pub returns-in-None-clause-value : goal.returns-in-None-clause-value
returns-in-None-clause-value c =
    IfOk-weaker c.crowded_shares.result
    (λ shares. shares ≡ shares_of (row_counts c.args.context.now.site.library c.query-query.result.now c.args.context.now.actives.actives))
    (λ shares. shares ≡ shares_in c.args.lookup.now (sited_in c.args.context.now))
    (λ _ is. is ∙ ap (λ (q : QueryValue). shares_of (row_counts c.args.context.now.site.library q c.args.context.now.actives.actives)) c.query-query.ensures)
    c.crowded_shares.ensures.value
