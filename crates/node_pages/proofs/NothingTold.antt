-- The JSON of a query for which nothing is looked up.
use Rattle.std.proofs.Common.{◌≡◌, ℕ, List, [], ◌++◌, ap, ◌∙◌}
use Rattle.feed_openurl.specs.declared.fault.OpenUrlFault.{OpenUrlFault}
use Rattle.node_hits.specs.AnswerJson.{answer_json}
use Rattle.node_hits.specs.QueryFacts.{QueryFactsValue}
use Rattle.node_pages.specs.QueryRefusals.{nothing_json, reason_text}
use Rattle.node_hits.specs.Tallies.{TallyValue}
use Rattle.node_hits.specs.Tallying.{RunningValue, no_hits, tally_from}
use Rattle.node_hits.proofs.Tallies.{tally_is}

pub nothing_told : (old new refused : List ℕ) (ask : QueryFactsValue) (reason : OpenUrlFault) (running : RunningValue) → refused ≡ reason_text reason → running ≡ no_hits
    → new ≡ old ++ answer_json ask refused (tally_from running) (tally_from running) → new ≡ old ++ nothing_json ask reason
unfolding nothing_json
nothing_told old new refused ask reason running same made is =
    is ∙ ap (λ r. old ++ answer_json ask r (tally_from running) (tally_from running)) same
    ∙ ap (λ (r : RunningValue). old ++ answer_json ask (reason_text reason) (tally_from r) (tally_from r)) made
    ∙ ap (λ (t : TallyValue). old ++ answer_json ask (reason_text reason) t t) (tally_is [])
