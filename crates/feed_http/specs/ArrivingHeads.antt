-- The heads of a response while they arrive (RFC 9112, section 4).
use Rattle.std.specs.Prelude.{◌≡◌, ◌≤◌, ◌<◌, ℕ, List, [], ◌++◌, length, take, All}
use Rattle.httparse.specs.Grammar.{ResponseHead, print_response}
use Rattle.httparse.specs.Spans.{IsResponseAt, IsResponseOf, IsResponseWithin}
use Rattle.httparse.specs.declared.spans.HeaderSpan.{HeaderSpan}
use Rattle.feed_http_heads.specs.declared.http_fault.HttpFault.TheVariants.{Short}
use Rattle.feed_http_heads.specs.Limits.{head_limit, field_limit}
use Rattle.feed_http_heads.specs.ResponseHeads.{print_heads, IsInterimHead, BeginsWithHeads, HasInterimAlone}
use Rattle.feed_http.specs.ArrivingChunks.{IsShown}
use Rattle.feed_http.specs.declared.fetching.heads_machine.HeadsMachine.{HeadsMachine}
use Rattle.feed_http.specs.declared.fetching.heads_machine.HeadStep.{HeadStep}
use Rattle.feed_http.specs.declared.fetching.heads_machine.HeadStep.TheVariants as steps

-- this text has been passed: interim heads
pub record ArePassed (passed : ℕ) (text : List ℕ) : Type 0 where
  pub interim : List ResponseHead
  pub skipped : All (IsInterimHead field_limit) interim
  pub text_is : text ≡ print_heads interim
  pub counted : passed ≡ length text
  pub fits : passed ≤ head_limit

-- the bytes begin with a head that is not interim, so the text with this head is all heads of the response
pub record IsHeadAt (text bytes : List ℕ) (head : ResponseHead) (count : ℕ) : Type 0 where
  pub interim : List ResponseHead
  pub begins : BeginsWithHeads head_limit field_limit (text ++ take count bytes) interim head []
  pub counted : count ≡ length (print_response head)

-- a step passes no more bytes than there are, and some; the places of a head are within its front
abbrev pub IsHeadWithin : List ℕ → List HeaderSpan → HeadStep → Type 0
IsHeadWithin bytes headers (steps.Skip count) = (0 < count) × (count ≤ length bytes)
IsHeadWithin bytes headers (steps.Head front spans) =
    (front ≤ length bytes) × (0 < spans.len) × (spans.len ≤ length bytes) × IsResponseWithin (take front bytes) headers spans
    × IsResponseOf (take front bytes) headers spans
IsHeadWithin bytes headers steps.Wait = length bytes < head_limit
IsHeadWithin bytes headers (steps.Fault fault) = IsShown fault

-- behind this text, with these bytes at hand
abbrev pub IsHeadStep : HeadsMachine → List ℕ → List ℕ → List HeaderSpan → HeadStep → Type 0
IsHeadStep new text bytes headers steps.Wait = ArePassed new.passed text × HasInterimAlone head_limit field_limit (text ++ bytes) Short
IsHeadStep new text bytes headers (steps.Skip count) = ArePassed new.passed (text ++ take count bytes)
IsHeadStep new text bytes headers (steps.Head front spans) =
    ArePassed new.passed text × ((head : ResponseHead) × IsResponseAt (take front bytes) headers spans head × IsHeadAt text bytes head spans.len)
IsHeadStep new text bytes headers (steps.Fault fault) = (more : List ℕ) → HasInterimAlone head_limit field_limit (text ++ (bytes ++ more)) fault
