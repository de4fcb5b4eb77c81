-- The invariants of reading a request's head into a buffer, and why there is none.
use Rattle.std.proofs.Common.{◌≡◌, ◌≤◌, ◌<◌, ◌+◌, ℕ, List, [], ◌++◌, length, take, drop, Option, Some}
use Rattle.std.proofs.Common.{◌-◌, IfErr, Result, Ok, Err, None, IfSome, refl, sym, ap, arith, ◌∙◌, append_assoc, suc, zero, codes, inl, get_or}
use Rattle.std.specs.Prelude.{IsErrAnd}
use Rattle.std.specs.Io.KnownBytes.{Consumes, IsAtEnd}
use Rattle.std.proofs.lemmas.List.{append-nil, length-append, take_at, take-append-le, take-append-drop}
use Rattle.std.proofs.Math.Seq.{take-append_seam}
use Rattle.std.proofs.lemmas.List.Sums.{AllPass-from_list_all}
use Rattle.std.proofs.lemmas.Str.{IsUtf8-from_ascii}
use Rattle.std.proofs.lemmas.Str.Ascii.{IsAscii-from_all}
use Rattle.httparse.specs.Grammar.{RequestHead, print_request, ReadsRequest, HasNoRequest, MayBecomeRequest, lf, is_token_byte, is_uri_byte}
use Rattle.httparse.specs.Spans.{RequestOverflows}
use Rattle.httparse.proofs.OnLiterals.{httparse_on_literals}
use Rattle.feed_http_heads.specs.declared.http_fault.HttpFault.{HttpFault}
use Rattle.feed_http_heads.specs.declared.http_fault.HttpFault.TheVariants.{Read, Short, HeadTooLong, BadHead}
use Rattle.feed_http_heads.specs.Reads.{IsEndFault}
use Rattle.feed_http_heads.specs.RequestHeads.{NeverBeginsWithHead, IsUnfinished, IsWhyNoRequest}
use Rattle.feed_http_heads.proofs.BufferFilling.{front_of}

-- what the bytes read so far are: they have no head yet, and may come to be one
pub record IsStart (bytes : List ℕ) : Type 0 where
  pub not_whole : HasNoRequest bytes
  pub may_become : MayBecomeRequest bytes

-- each head has bytes
pub some_bytes : (h : RequestHead) → 0 < length (print_request h)
unfolding print_request
some_bytes h = simp length-append (omega arith)

least : RequestHead
least = record { blank = []; method = codes "GET"; target = codes "/"; minor = 0; line_end = lf; fields = []; last = lf }

slash_small : (k d : ℕ) → k < 1 → get_or (codes "/") k d < 128
slash_small zero d below = omega arith
slash_small (suc k) d below = absurd (omega arith)

least_reads : ReadsRequest ([] ++ print_request least) least []
unfolding httparse_on_literals least
least_reads = (
  record {
    method = (omega arith, AllPass-from_list_all is_token_byte (codes "GET") refl);
    target = (omega arith, AllPass-from_list_all is_uri_byte (codes "/") refl);
    target_text = IsUtf8-from_ascii (codes "/") (IsAscii-from_all (codes "/") slash_small);
    minor = omega arith;
    fields = λ k d below. absurd (omega arith);
  },
  refl,
)

pub nothing_yet : IsStart []
nothing_yet = record {
  not_whole = λ h rest reads. let e : 0 ≡ length (print_request h) + length rest = ap length reads.1 ∙ length-append (print_request h) rest in
      absurd (omega (arith, some_bytes h));
  may_become = inl (print_request least, least, least_reads);
}

-- bytes that end before a head is whole
pub ended : (limit : ℕ) (old new : Option (List ℕ)) (bytes : List ℕ) → Consumes old new bytes → IsAtEnd new → length bytes < limit → IsStart bytes
    → IfSome old (IsUnfinished limit)
ended limit None new bytes taken done short start = tt
ended limit (Some text) None bytes taken done short start = absurd taken
ended limit (Some text) (Some rest) bytes taken done short start =
    let all : text ≡ bytes = taken ∙ rw done (append-nil bytes) in
    rw all (record { short = short; not_whole = start.not_whole; may_become = start.may_become })

-- a head that can't have few enough fields
pub overflowing : (limit room : ℕ) (old new : Option (List ℕ)) (bytes : List ℕ) → Consumes old new bytes → RequestOverflows room bytes
    → IfSome old (NeverBeginsWithHead limit room)
overflowing limit room None new bytes taken over = tt
overflowing limit room (Some text) None bytes taken over = absurd taken
overflowing limit room (Some text) (Some rest) bytes taken over = λ more head begins.
    let many : room < length head.fields = over (rest ++ more) head begins.rest
    (begins.reads.0, sym (append_assoc bytes rest more) ∙ ap (λ t. t ++ more) (sym taken) ∙ begins.reads.1) in
    absurd (omega (arith, many, begins.few))

-- as many bytes as a head may have, with no head in them
pub full : (limit room : ℕ) (old new : Option (List ℕ)) (bytes : List ℕ) → Consumes old new bytes → HasNoRequest bytes → limit ≤ length bytes
    → IfSome old (NeverBeginsWithHead limit room)
full limit room None new bytes taken none long = tt
full limit room (Some text) None bytes taken none long = absurd taken
full limit room (Some text) (Some rest) bytes taken none long = λ more head begins.
    let n : ℕ = length (print_request head) in
    let fits : n ≤ length bytes = omega (arith, begins.short) in
    let both : bytes ++ (rest ++ more) ≡ print_request head ++ begins.rest = sym (append_assoc bytes rest more) ∙ ap (λ t. t ++ more) (sym taken) ∙ begins.reads.1 in
    let front : take n bytes ≡ print_request head = sym (take-append-le n bytes (rest ++ more) fits) ∙ ap (take n) both ∙ take_at (print_request head) begins.rest n refl in
    none head (drop n bytes) (begins.reads.0, sym (take-append-drop n bytes) ∙ ap (λ t. t ++ drop n bytes) front)

-- a head that breaks off, or whose reader failed
no_more : (limit room : ℕ) (old mid : Option (List ℕ)) (bytes : List ℕ) (fault : HttpFault) → Consumes old mid bytes → IsEndFault mid fault → length bytes < limit → IsStart bytes
    → IfSome old (IsWhyNoRequest limit room fault)
no_more limit room None mid bytes fault taken is short start = tt
no_more limit room (Some text) None bytes fault taken is short start = absurd taken
no_more limit room (Some text) (Some rest) bytes Read taken is short start = tt
no_more limit room (Some text) (Some rest) bytes Short taken is short start = ended limit (Some text) (Some rest) bytes taken is short start
no_more limit room (Some text) (Some rest) bytes _ taken is short start = absurd is

-- the same for the result that a fault became
pub broken_off : {A : Type 0} (limit room : ℕ) (old mid : Option (List ℕ)) (bytes : List ℕ) (result : Result A HttpFault) (fault : HttpFault) → IsErrAnd result (λ e. e ≡ fault)
    → Consumes old mid bytes → IsEndFault mid fault → length bytes < limit → IsStart bytes → IfErr result (λ e. IfSome old (IsWhyNoRequest limit room e))
broken_off limit room old mid bytes (Ok done) fault same taken is short start = absurd same
broken_off limit room old mid bytes (Err e) fault same taken is short start = rw same (no_more limit room old mid bytes fault taken is short start)

-- as many bytes as a head may have, and still no head in them
pub too_long : (limit room : ℕ) (old new : Option (List ℕ)) (bytes : List ℕ) → Consumes old new bytes → IsStart bytes → limit ≡ length bytes
    → IfSome old (IsWhyNoRequest limit room HeadTooLong)
too_long limit room None new bytes taken start same = tt
too_long limit room (Some text) None bytes taken start same = absurd taken
too_long limit room (Some text) (Some rest) bytes taken start same =
    let front : take limit text ≡ bytes = ap (take limit) taken ∙ ap (λ n. take n (bytes ++ rest)) same ∙ take-append_seam bytes rest in
    record {
      long = omega (arith, ap length taken, length-append bytes rest);
      not_whole = rw front start.not_whole;
      may_become = rw front start.may_become;
    }

-- bytes that cannot become a head with few enough fields
pub invalid : (limit room : ℕ) (old new : Option (List ℕ)) (bytes : List ℕ) → Consumes old new bytes → length bytes ≤ limit → RequestOverflows room bytes
    → IfSome old (IsWhyNoRequest limit room BadHead)
invalid limit room None new bytes taken fits over = tt
invalid limit room (Some text) None bytes taken fits over = absurd taken
invalid limit room (Some text) (Some rest) bytes taken fits over =
    let later : List ℕ = take (limit - length bytes) rest in
    let front : take limit text ≡ bytes ++ later = ap (take limit) taken ∙ front_of limit bytes rest fits in
    rw front (λ more head tail reads few.
    let many : room < length head.fields = over (later ++ more) head tail (reads.0, sym (append_assoc bytes later more) ∙ reads.1) in
    absurd (omega (arith, many, few)))
