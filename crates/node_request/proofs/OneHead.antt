-- Bytes begin with one head at most, so a fact about it has one proof at most.
use Rattle.std.proofs.Common.{◌≤◌, ℕ, List, length, ap}
use Rattle.std.specs.Prelude.{Option, MatchOption}
use Rattle.std.proofs.Props.{props}
use mathlib.Core.HLevel.{Σ_prop_path}
use mathlib.Core.Logic.{∥∥₁_elim}
use Rattle.httparse.specs.Grammar.{RequestHead, ReadsRequest, print_request}
use Rattle.httparse.proofs.GrammarLemmas.{request_unique}
use Rattle.feed_http_heads.specs.Limits.{head_limit, field_limit}
use Rattle.feed_http_heads.specs.Requests.{HasHead}
use Rattle.feed_http_heads.specs.declared.request.Request.{Request}
use Rattle.node_request.specs.FoundRequests.{BeginsWith, HasNoHead, IsFoundIn}
use Rattle.node_request.specs.declared.received.ParsedRequest.{ParsedRequest}

-- the head at the front, what follows it, and a fact about the head
abbrev Headed : List ℕ → (RequestHead → Type 0) → Type 0
Headed bytes Fact = (parts : RequestHead × List ℕ) × (ReadsRequest bytes parts.0 parts.1
    × ((length (print_request parts.0) ≤ head_limit) × ((length parts.0.fields ≤ field_limit) × Fact parts.0)))

-- it has one proof at most, if the fact has for each head
headed_prop : (bytes : List ℕ) (Fact : RequestHead → Type 0) → ((head : RequestHead) → IsProp (Fact head)) → IsProp (Headed bytes Fact)
headed_prop bytes Fact each p q =
    let one = request_unique bytes p.0.0 q.0.0 p.0.1 q.0.1 p.1.0 q.1.0 in
    Σ_prop_path (λ parts. let fact = each parts.0 in Prim.hlevel (props, fact)) (λ i. (one.0 i, one.1 i))

pub head_prop : (bytes : List ℕ) (Fact : RequestHead → Type 0) → ((head : RequestHead) → IsProp (Fact head))
    → IsProp ((head : RequestHead) × (BeginsWith bytes head × Fact head))
head_prop bytes Fact each p q =
    ap (λ (s : Headed bytes Fact). (s.0.0, (record { rest = s.0.1; reads = s.1.0; short = s.1.1.0; few = s.1.1.1.0 }, s.1.1.1.1)))
    (headed_prop bytes Fact each ((p.0, p.1.0.rest), (p.1.0.reads, (p.1.0.short, (p.1.0.few, p.1.1))))
    ((q.0, q.1.0.rest), (q.1.0.reads, (q.1.0.short, (q.1.0.few, q.1.1)))))

pub found_prop : (bytes : List ℕ) (request : Request) → IsProp (IsFoundIn bytes request)
found_prop bytes request p q =
    ap (λ (s : (head : RequestHead) × (BeginsWith bytes head × HasHead request head)). record { head = s.0; begins = s.1.0; has = s.1.1 })
    (head_prop bytes (HasHead request) (λ head. Prim.hlevel props) (p.head, (p.begins, p.has)) (q.head, (q.begins, q.has)))

-- so what is known to be so is given
pub parse_had : (bytes : List ℕ) (parsed : Option ParsedRequest) → ∥ MatchOption parsed (HasNoHead bytes) (λ one. IsFoundIn bytes one.request) ∥₁
    → MatchOption parsed (HasNoHead bytes) (λ one. IsFoundIn bytes one.request)
parse_had bytes parsed known =
    let found : (one : ParsedRequest) → IsProp (IsFoundIn bytes one.request) = λ one. found_prop bytes one.request in
    ∥∥₁_elim known (Prim.hlevel (props, found)) (λ fact. fact)
