-- The head of a request at the front of a text (RFC 9112, section 3), and why there is none.
use Rattle.std.specs.Prelude.{◌≤◌, ◌<◌, ℕ, List, ◌++◌, length, take, ⊤}
use Rattle.httparse.specs.Grammar.{RequestHead, ReadsRequest, HasNoRequest, MayBecomeRequest, print_request}
use Rattle.feed_http_heads.specs.declared.http_fault.HttpFault.{HttpFault}
use Rattle.feed_http_heads.specs.declared.http_fault.HttpFault.TheVariants.{Read, Short, HeadTooLong, BadHead}

-- the text begins with this head, which has at most this many bytes and fields
pub record BeginsWithHead (bytes fields : ℕ) (text : List ℕ) (head : RequestHead) : Type 0 where
  pub rest : List ℕ
  pub reads : ReadsRequest text head rest
  pub short : length (print_request head) ≤ bytes
  pub few : length head.fields ≤ fields

-- whatever follows, the text does not begin with a head with at most this many bytes and fields
abbrev pub NeverBeginsWithHead : ℕ → ℕ → List ℕ → Type 0
NeverBeginsWithHead bytes fields text =
    (more : List ℕ) (head : RequestHead) → ¬ (BeginsWithHead bytes fields (text ++ more) head)

-- whatever follows, the text does not begin with a head with at most this many fields
abbrev pub NeverBeginsWithRequest : ℕ → List ℕ → Type 0
NeverBeginsWithRequest fields text =
    (more : List ℕ) (head : RequestHead) (rest : List ℕ) → ReadsRequest (text ++ more) head rest → length head.fields ≤ fields → ⊥

-- the text is shorter than the limit and does not begin with a complete head, but may become one
pub record IsUnfinished (bytes : ℕ) (text : List ℕ) : Type 0 where
  pub short : length text < bytes
  pub not_whole : HasNoRequest text
  pub may_become : MayBecomeRequest text

-- the text reaches the limit, and up to there it does not begin with a complete head, but may become one
pub record IsTooLong (bytes : ℕ) (text : List ℕ) : Type 0 where
  pub long : bytes ≤ length text
  pub not_whole : HasNoRequest (take bytes text)
  pub may_become : MayBecomeRequest (take bytes text)

-- the faults of reading a head
abbrev pub IsHeadFault : HttpFault → Type 0
IsHeadFault Read = ⊤
IsHeadFault Short = ⊤
IsHeadFault HeadTooLong = ⊤
IsHeadFault BadHead = ⊤
IsHeadFault _ = ⊥

-- what a fault says about a text without a head: it is incomplete; it exceeds the limit and may still become a head; or
-- it is invalid. If the reader fails, the text is unspecified
abbrev pub IsWhyNoRequest : ℕ → ℕ → HttpFault → List ℕ → Type 0
IsWhyNoRequest bytes fields Read text = ⊤
IsWhyNoRequest bytes fields Short text = IsUnfinished bytes text
IsWhyNoRequest bytes fields HeadTooLong text = IsTooLong bytes text
IsWhyNoRequest bytes fields BadHead text = NeverBeginsWithRequest fields (take bytes text)
IsWhyNoRequest bytes fields _ text = ⊥
