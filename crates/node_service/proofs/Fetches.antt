-- Whether a request asks the node to fetch.
use Rattle.std.proofs.Common.{◌≡◌, ◌⊎◌, ℕ, List, Bool, true, false, Option, Some, None, inl, inr, refl, sym, subst}
use Rattle.std.specs.Prelude.{◌&&◌, not, is_some, MatchBool}
use Rattle.httparse.specs.Grammar.{RequestHead}
use Rattle.httparse.proofs.GrammarLemmas.{request_unique}
use Rattle.feed_http_heads.specs.Requests.{lacks_host}
use Rattle.node_request.specs.FoundRequests.{BeginsWith, HasNoHead}
use Rattle.node_request.specs.FetchRequests.{name_to_fetch}
use Rattle.node_resolver.specs.NodeResponses.{AsksForFetch, AsksForNoFetch}

-- bytes whose head does not ask for that
pub asks_for_none : (bytes : List ℕ) (head : RequestHead) → BeginsWith bytes head → (lacks_host head ≡ true) ⊎ (name_to_fetch head ≡ None) → AsksForNoFetch bytes
asks_for_none bytes head begins none = λ other also.
    subst (λ (r : RequestHead). (lacks_host r ≡ true) ⊎ (name_to_fetch r ≡ None))
    (request_unique bytes head other begins.rest also.rest begins.reads also.reads).0 none

asked_by : (bytes : List ℕ) (head : RequestHead) → BeginsWith bytes head → (lacks : Bool) (name : Option (List ℕ)) → lacks_host head ≡ lacks → name_to_fetch head ≡ name
    → MatchBool (not lacks && is_some name) (AsksForFetch bytes) (AsksForNoFetch bytes)
asked_by bytes head begins true name lacks named = asks_for_none bytes head begins (inl lacks)
asked_by bytes head begins false (Some text) lacks named = (head, begins, (lacks, rw named refl))
asked_by bytes head begins false None lacks named = asks_for_none bytes head begins (inr named)

-- bytes whose head asks for that or not
pub asked_or_not : (bytes : List ℕ) (head : RequestHead) (asks : Bool) → BeginsWith bytes head → asks ≡ (not (lacks_host head) && is_some (name_to_fetch head))
    → MatchBool asks (AsksForFetch bytes) (AsksForNoFetch bytes)
asked_or_not bytes head asks begins is =
    subst (λ (b : Bool). MatchBool b (AsksForFetch bytes) (AsksForNoFetch bytes)) (sym is)
    (asked_by bytes head begins (lacks_host head) (name_to_fetch head) refl refl)

-- bytes without a head
pub asks_for_none_without : (bytes : List ℕ) → HasNoHead bytes → AsksForNoFetch bytes
asks_for_none_without bytes none = λ head begins. absurd (none head begins)
