-- The responses that a peer sends to requests.
use Rattle.std.specs.Prelude.{ℕ, List, ⊤}

-- the responses of a peer: unknown, or a relation between what is written to it and what can then be read
pub data Responses : Type 1 where
  Unknown : Responses
  Known : (List ℕ → List ℕ → Type 0) → Responses

-- the statement holds, if the responses are known
abbrev pub IfKnown : Responses → ((List ℕ → List ℕ → Type 0) → Type 0) → Type 0
IfKnown Unknown P = ⊤
IfKnown (Known IsResponseTo) P = P IsResponseTo
