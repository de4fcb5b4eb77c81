-- Where the head of a request ends in the bytes received so far (RFC 9112, section 3).
use Rattle.std.specs.Prelude.{◌≡◌, ℕ, List, length, take}
use Rattle.httparse.specs.Grammar.{RequestHead, print_request}
use Rattle.httparse.specs.Spans.{IsRequestWithin, IsRequestAt}
use Rattle.httparse.specs.declared.spans.HeaderSpan.{HeaderSpan}
use Rattle.httparse.specs.declared.spans.RequestSpans.{RequestSpans}
use Rattle.feed_http_heads.specs.declared.head_ends.HeadEnd.{HeadEnd}
use Rattle.feed_http_heads.specs.declared.head_ends.HeadEnd.TheVariants as end
use Rattle.feed_http_heads.specs.declared.head_ends.HeadFound.{HeadFound}
use Rattle.feed_http_heads.specs.declared.head_ends.HeadFound.TheVariants as found
use Rattle.feed_http_heads.specs.RequestHeads.{BeginsWithHead, NeverBeginsWithHead, IsUnfinished}

-- the bytes begin with a head of this length; or not yet; or never, whatever follows
abbrev pub IsHeadEnd : ℕ → ℕ → List ℕ → HeadEnd → Type 0
IsHeadEnd bytes fields text (end.Whole size) =
    (head : RequestHead) × BeginsWithHead bytes fields text head × (size ≡ length (print_request head))
IsHeadEnd bytes fields text end.Unfinished = IsUnfinished bytes text
IsHeadEnd bytes fields text end.Never = NeverBeginsWithHead bytes fields text

-- the spans cover the parts of the head at the front
pub record IsHeadInFront (bytes fields : ℕ) (text : List ℕ) (headers : List HeaderSpan) (spans : RequestSpans) : Type 0 where
  pub within : IsRequestWithin (take bytes text) headers spans
  pub head : RequestHead
  pub at : IsRequestAt (take bytes text) headers spans head
  pub begins : BeginsWithHead bytes fields text head

-- the same with the places of its parts
abbrev pub IsHeadFound : ℕ → ℕ → List ℕ → List HeaderSpan → HeadFound → Type 0
IsHeadFound bytes fields text headers (found.Whole spans) = IsHeadInFront bytes fields text headers spans
IsHeadFound bytes fields text headers found.Unfinished = IsUnfinished bytes text
IsHeadFound bytes fields text headers found.Never = NeverBeginsWithHead bytes fields text
