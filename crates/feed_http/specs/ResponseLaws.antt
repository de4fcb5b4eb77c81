-- Laws of responses: a text has one result, and the bytes of a file that is arriving are its front. For chunked bodies:
-- where one ends, the text alone decides.
use Rattle.std.specs.Prelude.{◌≡◌, ◌≤◌, ◌+◌, ◌⊎◌, ℕ, List, [], ◌++◌, length, slice_range, Some, Ok, Err}
use Rattle.httparse.specs.Grammar.{ResponseHead}
use Rattle.feed_http_heads.specs.Limits.{head_limit, field_limit}
use Rattle.feed_http_heads.specs.ResponseHeads.{BeginsWithHeads}
use Rattle.feed_http_heads.specs.declared.http_fault.HttpFault.{HttpFault}
use Rattle.feed_http_heads.specs.declared.http_fault.HttpFault.TheVariants.{Read, Short, Memory}
use Rattle.feed_http.specs.declared.fetching.response_machine.ResponseMachine.{ResponseMachine}
use Rattle.feed_http.specs.declared.fetching.got.Method.{Method}
use Rattle.feed_http.specs.declared.fetching.got.Got.{Got}
use Rattle.feed_http.specs.declared.fetching.got.Got.TheVariants as got
use Rattle.feed_http.specs.declared.fetching.validation.Framing.TheVariants.{Sized}
use Rattle.feed_http.specs.declared.fetching.validation.Announcement.TheVariants.{Whole}
use Rattle.feed_http.specs.Announcements.{announcement_of}
use Rattle.feed_http.specs.Chunks.{IsBodyChunked, IsNotChunked}
use Rattle.feed_http.specs.Got.{IsResultOf}
use Rattle.feed_http.specs.ArrivingResponses.{HasPassedResponse, IsWholeResponse, file_length}

-- a text has at most one chunked body
abbrev pub HasOneBody : Type 0
HasOneBody = (text body other : List ℕ) → IsBodyChunked body text → IsBodyChunked other text → body ≡ other

-- no text has a complete chunked body and one that broke off
abbrev pub IsNeverBoth : Type 0
IsNeverBoth = (least most : ℕ) (text body : List ℕ) → IsBodyChunked body text → IsNotChunked least most Short text → ⊥

-- a text has at most one result
abbrev pub HasOneResult : Type 0
HasOneResult = (method : Method) (text : List ℕ) (one other : Got) → IsResultOf method text (Ok one) → IsResultOf method text (Ok other) → one ≡ other

-- no text has both a result and a response that breaks off
abbrev pub IsNeverShort : Type 0
IsNeverShort = (method : Method) (text : List ℕ) (given : Got) → IsResultOf method text (Ok given) → IsResultOf method text (Err Short) → ⊥

-- a text that has a result has no fault, but that the reader failed or memory ran out
abbrev pub HasNoFault : Type 0
HasNoFault =
    (method : Method) (text : List ℕ) (given : Got) (fault : HttpFault) → IsResultOf method text (Ok given) → IsResultOf method text (Err fault) → (fault ≡ Read) ⊎ (fault ≡ Memory)

-- no shorter front of a text that is a whole response has a result
abbrev pub HasNoFront : Type 0
HasNoFront = (method : Method) (front more : List ℕ) (given : Got) → IsWholeResponse method (front ++ more) → IsResultOf method front (Ok given) → more ≡ []

-- the text begins with heads that announce a whole file of this size; of the body behind them these bytes have arrived, from
-- this place on
pub record HasPart (method : Method) (text : List ℕ) (size first : ℕ) (part : List ℕ) : Type 0 where
  pub interim : List ResponseHead
  pub head : ResponseHead
  pub inner : List ℕ
  pub begins : BeginsWithHeads head_limit field_limit text interim head inner
  pub announced : announcement_of method head ≡ Ok (Whole (Sized size))
  pub fits : first + length part ≤ size
  pub arrived : first + length part ≤ length inner
  pub is : part ≡ slice_range inner first (first + length part)

-- what a machine that passed the text has last given of such a body is a part of it, whatever follows
abbrev pub GivesParts : Type 0
GivesParts =
    (machine : ResponseMachine) (size : ℕ) (text body part more : List ℕ) → file_length machine.place ≡ Some size → HasPassedResponse machine text (body ++ part)
    → HasPart machine.method (text ++ more) size (length body) part

-- if further bytes complete the text to a response with a file, the file has this size, and the part is the file's at
-- its place
abbrev pub IsPartOfFile : Type 0
IsPartOfFile =
    (method : Method) (text : List ℕ) (size first : ℕ) (part more file : List ℕ) → HasPart method text size first part → IsResultOf method (text ++ more) (Ok (got.Whole file))
    → (size ≡ length file) × (part ≡ slice_range file first (first + length part))
