-- From the head that was read in a buffer to all bytes, whose front the buffer is.
use Rattle.std.proofs.Common.{◌≡◌, ◌≤◌, ℕ, List, ◌++◌, length, take, drop, map, Option, None, Some, IfSome, ap, sym, arith, subst, append_assoc, ◌∙◌}
use Rattle.std.specs.Prelude.{min}
use Rattle.std.proofs.lemmas.List.{length-take, length-take-le, length-map, take-append-drop, take_min}
use Rattle.httparse.specs.Grammar.{RequestHead, ReadsRequest, HasNoRequest, print_request}
use Rattle.httparse.specs.Spans.{IsRequestAt, IsRequestOf, IsRequestWithin, RequestOverflows, header_bytes, name_and_value}
use Rattle.httparse.specs.declared.spans.RequestSpans.{RequestSpans}
use Rattle.httparse.specs.declared.spans.HeaderSpan.{HeaderSpan}
use Rattle.httparse.proofs.GrammarLemmas.{request_unique, ReadsRequest-append}
use Rattle.feed_http_heads.specs.RequestHeads.{BeginsWithHead, NeverBeginsWithHead, NeverBeginsWithRequest, IsTooLong}
use Rattle.feed_http_heads.specs.HeadEnds.{IsHeadInFront}
use Rattle.feed_http_heads.proofs.RequestReading.{overflowing, full}

-- the head that was read is at the front of all bytes
pub reads_on : (text buffer rest : List ℕ) (headers : List HeaderSpan) (spans : RequestSpans) (h : RequestHead) → text ≡ buffer ++ rest → IsRequestAt buffer headers spans h
    → ReadsRequest text h (drop spans.len buffer ++ rest)
reads_on text buffer rest headers spans h e at = rw e (ReadsRequest-append buffer h (drop spans.len buffer) rest at.reads)

-- and it is the head that they begin with
pub same_head : (bytes fields : ℕ) (text buffer rest : List ℕ) (headers : List HeaderSpan) (spans : RequestSpans) (h head : RequestHead)
    → text ≡ buffer ++ rest → IsRequestAt buffer headers spans h → BeginsWithHead bytes fields text head → IsRequestAt buffer headers spans head
same_head bytes fields text buffer rest headers spans h head e at begins =
    let same : h ≡ head = (request_unique text h head _ begins.rest (reads_on text buffer rest headers spans h e at) begins.reads).0 in
    subst (IsRequestAt buffer headers spans) same at

-- it has no more fields than there are headers
pub fields_at : (buffer : List ℕ) (headers : List HeaderSpan) (spans : RequestSpans) (h : RequestHead) → IsRequestWithin buffer headers spans → IsRequestAt buffer headers spans h
    → length h.fields ≤ length headers
fields_at buffer headers spans h within at =
    let same : length (map (header_bytes buffer) (take spans.headers headers)) ≡ length (map name_and_value h.fields) = ap length at.fields in
    omega (arith, simp length-map at same, length-take spans.headers headers)

-- a head that was read within the limits is at the front
pub begins_with : (bytes fields : ℕ) (text buffer rest : List ℕ) (headers : List HeaderSpan) (spans : RequestSpans) (h : RequestHead)
    → text ≡ buffer ++ rest → IsRequestAt buffer headers spans h → IsRequestWithin buffer headers spans → length buffer ≤ bytes → length headers ≤ fields
    → BeginsWithHead bytes fields text h
begins_with bytes fields text buffer rest headers spans h e at within short few =
    let long : length (print_request h) ≤ bytes = omega (arith, at.len, within.section.len_fits) in
    record {
      rest = drop spans.len buffer ++ rest;
      reads = reads_on text buffer rest headers spans h e at;
      short = long;
      few = omega (arith, fields_at buffer headers spans h within at);
    }

front_and_rest : (bytes : ℕ) (text : List ℕ) → text ≡ take bytes text ++ drop bytes text
front_and_rest bytes text = sym (take-append-drop bytes text)

-- what was read of the front
pub in_front : (bytes fields : ℕ) (text : List ℕ) (headers : List HeaderSpan) (spans : RequestSpans)
    → IsRequestOf (take bytes text) headers spans → IsRequestWithin (take bytes text) headers spans → length headers ≤ fields
    → IsHeadInFront bytes fields text headers spans
in_front bytes fields text headers spans of within few = record {
  within = within;
  head = of.0;
  at = of.1;
  begins = begins_with bytes fields text (take bytes text) (drop bytes text) headers spans of.0 (front_and_rest bytes text) of.1 within
      (omega (arith, length-take bytes text)) few;
}

-- a front that is refused
pub never_in_front : (bytes fields : ℕ) (text : List ℕ) → RequestOverflows fields (take bytes text) → NeverBeginsWithHead bytes fields text
never_in_front bytes fields text over =
    overflowing bytes fields (Some text) (Some (drop bytes text)) (take bytes text) (front_and_rest bytes text) over

-- a front that is full
pub full_in_front : (bytes fields : ℕ) (text : List ℕ) → HasNoRequest (take bytes text) → bytes ≤ length text → NeverBeginsWithHead bytes fields text
full_in_front bytes fields text none long =
    full bytes fields (Some text) (Some (drop bytes text)) (take bytes text) (front_and_rest bytes text) none
    (let e : length (take bytes text) ≡ bytes = length-take-le bytes text long in omega arith)

-- the front, counted by the least of two numbers
pub front_is : (bytes n : ℕ) (text : List ℕ) → n ≡ min bytes (length text) → take n text ≡ take bytes text
front_is bytes n text is = rw is (take_min bytes text)

-- a text that is too long for a head never begins with one within the limits
pub too_long_never : (bytes fields : ℕ) (old : Option (List ℕ)) → IfSome old (IsTooLong bytes) → IfSome old (NeverBeginsWithHead bytes fields)
too_long_never bytes fields None why = tt
too_long_never bytes fields (Some text) why = full_in_front bytes fields text why.not_whole why.long

-- nor does a text whose front is invalid
pub invalid_never : (bytes fields : ℕ) (old : Option (List ℕ)) → IfSome old (λ text. NeverBeginsWithRequest fields (take bytes text)) → IfSome old (NeverBeginsWithHead bytes fields)
invalid_never bytes fields None why = tt
invalid_never bytes fields (Some text) why = λ more head begins.
    why (drop bytes text ++ more) head begins.rest
    (begins.reads.0, sym (append_assoc (take bytes text) (drop bytes text) more) ∙ ap (λ t. t ++ more) (take-append-drop bytes text) ∙ begins.reads.1) begins.few
