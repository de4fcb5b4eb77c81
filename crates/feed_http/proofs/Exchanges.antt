-- From the head that was read to the bytes of the reader.
use Rattle.std.proofs.Common.{◌≤◌, ℕ, List, [], length, Option, Some, None, IfSome, ◌∙◌}
use Rattle.std.specs.Io.KnownBytes.{Consumes}
use Rattle.std.proofs.lemmas.List.{append-nil}
use Rattle.httparse.specs.Grammar.{RequestHead}
use Rattle.httparse.specs.Spans.{IsRequestAt, IsRequestOf, IsRequestWithin}
use Rattle.httparse.specs.declared.spans.RequestSpans.{RequestSpans}
use Rattle.httparse.specs.declared.spans.HeaderSpan.{HeaderSpan}
use Rattle.feed_http_heads.specs.RequestHeads.{BeginsWithHead, NeverBeginsWithHead}
use Rattle.feed_http_heads.proofs.HeadsFound.{same_head, begins_with}

-- what holds of each head that was read holds of the one that the reader's bytes begin with
pub by_head : (bytes fields : ℕ) (old new : Option (List ℕ)) (buffer : List ℕ) (headers : List HeaderSpan) (spans : RequestSpans) {Told : Type 0} (told : Option Told) (P : Told → RequestHead
    → Type 0)
    → Consumes old new buffer → IsRequestOf buffer headers spans
    → IfSome told (λ files. (head : RequestHead) → IsRequestAt buffer headers spans head → P files head)
    → IfSome old (λ text. IfSome told (λ files. (head : RequestHead) → BeginsWithHead bytes fields text head → P files head))
by_head bytes fields None new buffer headers spans told P taken of all = tt
by_head bytes fields (Some text) None buffer headers spans told P taken of all = absurd taken
by_head bytes fields (Some text) (Some rest) buffer headers spans None P taken of all = tt
by_head bytes fields (Some text) (Some rest) buffer headers spans (Some files) P taken of all =
    λ head begins. all head (same_head bytes fields text buffer rest headers spans of.0 head taken of.1 begins)

-- a head that was read within the limits is at the front
pub has_head : (bytes fields : ℕ) (old new : Option (List ℕ)) (buffer : List ℕ) (headers : List HeaderSpan) (spans : RequestSpans) (P : List ℕ → Type 0)
    → Consumes old new buffer → IsRequestOf buffer headers spans → IsRequestWithin buffer headers spans → length buffer ≤ bytes → length headers ≤ fields
    → IfSome old (λ text. ((head : RequestHead) → ¬ (BeginsWithHead bytes fields text head)) → P text)
has_head bytes fields None new buffer headers spans P taken of within short few = tt
has_head bytes fields (Some text) None buffer headers spans P taken of within short few = absurd taken
has_head bytes fields (Some text) (Some rest) buffer headers spans P taken of within short few = λ none.
    absurd (none of.0 (begins_with bytes fields text buffer rest headers spans of.0 taken of.1 within short few))

-- where no head can come, nothing is promised of one
pub never_served : (bytes fields : ℕ) (old : Option (List ℕ)) {Told : Type 0} (told : Option Told) (P : Told → RequestHead → Type 0) → IfSome old (NeverBeginsWithHead bytes fields)
    → IfSome old (λ text. IfSome told (λ files. (head : RequestHead) → BeginsWithHead bytes fields text head → P files head))
never_served bytes fields None told P never = tt
never_served bytes fields (Some text) None P never = tt
never_served bytes fields (Some text) (Some files) P never = λ head begins.
    absurd (never [] head (record { rest = begins.rest; reads = (begins.reads.0, append-nil text ∙ begins.reads.1); short = begins.short; few = begins.few }))

-- the same of what needs no file
pub by_head_alone : (bytes fields : ℕ) (old new : Option (List ℕ)) (buffer : List ℕ) (headers : List HeaderSpan) (spans : RequestSpans) (P : RequestHead → Type 0)
    → Consumes old new buffer → IsRequestOf buffer headers spans → ((head : RequestHead) → IsRequestAt buffer headers spans head → P head)
    → IfSome old (λ text. (head : RequestHead) → BeginsWithHead bytes fields text head → P head)
by_head_alone bytes fields old new buffer headers spans P taken of all = by_head bytes fields old new buffer headers spans {Told = ℕ} (Some 0) (λ n. P) taken of all

pub never_asked : (bytes fields : ℕ) (old : Option (List ℕ)) (P : RequestHead → Type 0) → IfSome old (NeverBeginsWithHead bytes fields)
    → IfSome old (λ text. (head : RequestHead) → BeginsWithHead bytes fields text head → P head)
never_asked bytes fields old P never = never_served bytes fields old {Told = ℕ} (Some 0) (λ n. P) never
