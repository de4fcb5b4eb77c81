use Rattle.std.proofs.Common.{◌≡◌, ℕ, Bool, true, false, List, MatchBool, inr, sym}
use Rattle.httparse.specs.Grammar.{RequestHead}
use Rattle.node_request.specs.FetchRequests.{FetchPolicyValue}
use Rattle.node_request.specs.FoundRequests.{BeginsWith}
use Rattle.node_operator.specs.FeedResponses.{EndsFetch, EndsNoFetch, ends_by}
use Rattle.node_operator.proofs.feed_responses.ends_fetch.Goals as goal

ended : (b : Bool) (policy : FetchPolicyValue) (bytes : List ℕ) (head : RequestHead) → BeginsWith bytes head → b ≡ ends_by policy head
    → MatchBool b (EndsFetch policy bytes) (EndsNoFetch policy bytes)
ended true policy bytes head begins is = (head, begins, sym is)
ended false policy bytes head begins is = inr (head, begins, sym is)

pub returns-in-Some : goal.returns-in-Some
returns-in-Some c = let found = c.in-Some.ensures in
    ended c.ends_by.result c.args.policy.now c.args.received.now.bytes.now found.head found.begins (c.ends_by.ensures found.head found.has)
