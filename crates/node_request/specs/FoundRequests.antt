-- The request at the front of the bytes received, if there is one within the limits.
use Rattle.std.specs.Prelude.{ℕ, List}
use Rattle.httparse.specs.Grammar.{RequestHead}
use Rattle.feed_http_heads.specs.Limits.{head_limit, field_limit}
use Rattle.feed_http_heads.specs.RequestHeads.{BeginsWithHead}
use Rattle.feed_http_heads.specs.Requests.{HasHead}
use Rattle.feed_http_heads.specs.declared.request.Request.{Request}

-- the bytes begin with this head, within the limits
abbrev pub BeginsWith : List ℕ → RequestHead → Type 0
BeginsWith bytes head = BeginsWithHead head_limit field_limit bytes head

-- the bytes begin with no head within the limits
abbrev pub HasNoHead : List ℕ → Type 0
HasNoHead bytes = (head : RequestHead) → ¬ (BeginsWith bytes head)

-- the bytes begin with the head of this parsed request
pub record IsFoundIn (bytes : List ℕ) (request : Request) : Type 0 where
  pub head : RequestHead
  pub begins : BeginsWith bytes head
  pub has : HasHead request head
