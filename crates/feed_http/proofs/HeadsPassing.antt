-- The heads of a response that were passed, and the bytes behind them.
use Rattle.std.proofs.Common.{◌≡◌, ◌≢◌, ◌≤◌, ◌<◌, ◌+◌, ◌-◌, ℕ, List, [], ◌∷◌, ◌++◌, length, min, take, drop, true, false, refl, sym, ap, arith, ◌∙◌, append_assoc, subst}
use Rattle.std.proofs.lemmas.List.{append-nil, length-append, take_at, take_all, take-append-drop, take-append-le, length-take}
use Rattle.std.proofs.lemmas.List.Elements.{All-push}
use Rattle.std.proofs.lemmas.Grind.{flat_map-append}
use Rattle.httparse.specs.Grammar.{ResponseHead, print_response, HasNoResponse, MayBecomeResponse}
use Rattle.httparse.specs.Spans.{IsResponseAt, IsResponseOf, IsResponseWithin, ResponseOverflows}
use Rattle.httparse.specs.declared.spans.ResponseSpans.{ResponseSpans}
use Rattle.httparse.specs.declared.spans.HeaderSpan.{HeaderSpan}
use Rattle.feed_http_heads.specs.declared.http_fault.HttpFault.TheVariants.{Short, HeadTooLong, BadHead}
use Rattle.feed_http_heads.specs.Limits.{head_limit, field_limit}
use Rattle.feed_http_heads.specs.ResponseHeads.{print_heads, is_interim_status, IsInterimHead, HasInterimAlone, NeverBeginsWithResponse}
use Rattle.feed_http_heads.proofs.ResponseReading.{counted, some_bytes}
use Rattle.feed_http_heads.proofs.BufferFilling.{front_of}
use Rattle.feed_http.specs.ArrivingHeads.{ArePassed, IsHeadAt}

pub none_passed : ArePassed 0 []
none_passed = record { interim = []; skipped = λ i d below. absurd (omega (arith, below)); text_is = refl; counted = refl; fits = omega arith }

-- a head in the front of the bytes is at the front of all of them
head_first : (bytes : List ℕ) (n : ℕ) (headers : List HeaderSpan) (spans : ResponseSpans) (h : ResponseHead) → IsResponseAt (take n bytes) headers spans h
    → bytes ≡ print_response h ++ (drop spans.len (take n bytes) ++ drop n bytes)
head_first bytes n headers spans h at =
    sym (take-append-drop n bytes) ∙ ap (λ t. t ++ drop n bytes) at.reads.1 ∙ append_assoc (print_response h) (drop spans.len (take n bytes)) (drop n bytes)

head_taken : (bytes : List ℕ) (n : ℕ) (headers : List HeaderSpan) (spans : ResponseSpans) (h : ResponseHead) → IsResponseAt (take n bytes) headers spans h
    → take spans.len bytes ≡ print_response h
head_taken bytes n headers spans h at =
    ap (take spans.len) (head_first bytes n headers spans h at) ∙ take_at (print_response h) (drop spans.len (take n bytes) ++ drop n bytes) spans.len (sym at.len)

within_room : (bytes : List ℕ) (n room : ℕ) (headers : List HeaderSpan) (spans : ResponseSpans) → n ≤ room → IsResponseWithin (take n bytes) headers spans → spans.len ≤ room
within_room bytes n room headers spans fits within = let l = length-take n bytes in omega (arith, within.section.len_fits, l, fits)

-- an interim head was passed
pub interim_passed : (passed n room : ℕ) (text bytes : List ℕ) (headers : List HeaderSpan) (spans : ResponseSpans) → ArePassed passed text → room ≡ head_limit - passed → n ≤ room
    → length headers ≡ field_limit → IsResponseWithin (take n bytes) headers spans → IsResponseOf (take n bytes) headers spans → is_interim_status spans.code ≡ true
    → ArePassed (passed + spans.len) (text ++ take spans.len bytes)
interim_passed passed n room text bytes headers spans at is_room fits few within (h, of) is =
    let taken = head_taken bytes n headers spans h of in
    let sizes = ap length taken in
    record {
      interim = at.interim ++ h ∷ [];
      skipped = All-push (IsInterimHead field_limit) at.interim h at.skipped
          (record { valid = of.reads.0; interim = ap is_interim_status (sym of.code) ∙ is; few = omega (arith, counted (take n bytes) headers spans h within of, few) });
      text_is = ap (λ t. t ++ take spans.len bytes) at.text_is ∙ ap (λ t. print_heads at.interim ++ t) taken
          ∙ sym (flat_map-append print_response at.interim (h ∷ []) ∙ ap (λ t. print_heads at.interim ++ t) (append-nil (print_response h)));
      counted = (let l = length-append text (take spans.len bytes) in omega (arith, l, sizes, of.len, at.counted));
      fits = omega (arith, within_room bytes n room headers spans fits within, is_room, at.fits);
    }

pub head_bytes : (bytes : List ℕ) (n : ℕ) (headers : List HeaderSpan) (spans : ResponseSpans) → IsResponseWithin (take n bytes) headers spans → IsResponseOf (take n bytes) headers spans
    → (0 < spans.len) × (spans.len ≤ length bytes)
head_bytes bytes n headers spans within (h, of) =
    let l = length-take n bytes in (omega (arith, of.len, some_bytes h), omega (arith, within.section.len_fits, l))

-- another head was found
pub head_found : (passed n room : ℕ) (text bytes : List ℕ) (headers : List HeaderSpan) (spans : ResponseSpans) → ArePassed passed text → room ≡ head_limit - passed → n ≤ room
    → length headers ≡ field_limit → IsResponseWithin (take n bytes) headers spans → IsResponseOf (take n bytes) headers spans → is_interim_status spans.code ≡ false
    → (h : ResponseHead) × IsResponseAt (take n bytes) headers spans h × IsHeadAt text bytes h spans.len
head_found passed n room text bytes headers spans at is_room fits few within (h, of) is = (
  h,
  of,
  record {
    interim = at.interim;
    begins = record {
      skipped = at.skipped;
      valid = of.reads.0;
      last = ap is_interim_status (sym of.code) ∙ is;
      text_is = ap (λ t. t ++ take spans.len bytes) at.text_is ∙ ap (λ t. print_heads at.interim ++ t) (head_taken bytes n headers spans h of)
          ∙ sym (append-nil (print_heads at.interim ++ print_response h));
      short = omega (arith, ap length at.text_is, at.counted, of.len, within_room bytes n room headers spans fits within, is_room, at.fits);
      few = omega (arith, counted (take n bytes) headers spans h within of, few);
    };
    counted = of.len;
  },
)

-- more of a head has to arrive
pub head_awaited : (passed n room : ℕ) (text bytes : List ℕ) → ArePassed passed text → room ≡ head_limit - passed → n ≡ min (length bytes) room → n ≢ room
    → HasNoResponse (take n bytes) → MayBecomeResponse (take n bytes) → HasInterimAlone head_limit field_limit (text ++ bytes) Short
head_awaited passed n room text bytes at is_room is_n less none may =
    let few : length bytes < room = omega (arith, is_n, less) in
    let whole : take n bytes ≡ bytes = take_all n bytes (omega (arith, is_n, few)) in
    record {
      interim = at.interim;
      rest = bytes;
      skipped = at.skipped;
      text_is = ap (λ t. t ++ bytes) at.text_is;
      why = (
        omega (arith, few, is_room, ap length at.text_is, at.counted),
        record { not_whole = subst HasNoResponse whole none; may_become = subst MayBecomeResponse whole may },
      );
    }

-- the heads reach the limit
pub heads_too_long : (passed n room : ℕ) (text bytes : List ℕ) → ArePassed passed text → room ≡ head_limit - passed → n ≡ min (length bytes) room → n ≡ room
    → HasNoResponse (take n bytes) → MayBecomeResponse (take n bytes) → (more : List ℕ) → HasInterimAlone head_limit field_limit (text ++ (bytes ++ more)) HeadTooLong
heads_too_long passed n room text bytes at is_room is_n same none may more =
    let left : head_limit - length (print_heads at.interim) ≡ n = omega (arith, same, is_room, ap length at.text_is, at.counted) in
    let front : take n (bytes ++ more) ≡ take n bytes = take-append-le n bytes more (omega (arith, is_n)) in
    record {
      interim = at.interim;
      rest = bytes ++ more;
      skipped = at.skipped;
      text_is = ap (λ t. t ++ (bytes ++ more)) at.text_is;
      why = (
        (let l = length-append bytes more in omega (arith, l, left, is_n)),
        record {
          not_whole = subst HasNoResponse (sym (ap (λ (k : ℕ). take k (bytes ++ more)) left ∙ front)) none;
          may_become = subst MayBecomeResponse (sym (ap (λ (k : ℕ). take k (bytes ++ more)) left ∙ front)) may;
        },
      );
    }

-- the bytes are not a head
pub head_refused : (passed n room : ℕ) (text bytes : List ℕ) → ArePassed passed text → room ≡ head_limit - passed → n ≡ min (length bytes) room
    → ResponseOverflows field_limit (take n bytes) → (more : List ℕ) → HasInterimAlone head_limit field_limit (text ++ (bytes ++ more)) BadHead
head_refused passed n room text bytes at is_room is_n over more =
    let left : head_limit - length (print_heads at.interim) ≡ room = omega (arith, is_room, ap length at.text_is, at.counted) in
    let split : bytes ++ more ≡ take n bytes ++ (drop n bytes ++ more) =
    ap (λ t. t ++ more) (sym (take-append-drop n bytes)) ∙ append_assoc (take n bytes) (drop n bytes) more in
    let fits : length (take n bytes) ≤ room = (let l = length-take n bytes in omega (arith, l, is_n)) in
    let never : NeverBeginsWithResponse field_limit (take room (bytes ++ more)) = refused room (take n bytes) (drop n bytes ++ more) (bytes ++ more) split fits over in
    record {
      interim = at.interim;
      rest = bytes ++ more;
      skipped = at.skipped;
      text_is = ap (λ t. t ++ (bytes ++ more)) at.text_is;
      why = subst (λ (k : ℕ). NeverBeginsWithResponse field_limit (take k (bytes ++ more))) (sym left) never;
    }
  where
    refused : (room : ℕ) (part rest whole : List ℕ) → whole ≡ part ++ rest → length part ≤ room → ResponseOverflows field_limit part → NeverBeginsWithResponse field_limit (take room whole)
    refused room part rest whole e fits over = λ further head tail reads few.
        let front : take room whole ≡ part ++ take (room - length part) rest = ap (take room) e ∙ front_of room part rest fits in
        let many : field_limit < length head.fields =
        over (take (room - length part) rest ++ further) head tail
        (reads.0, sym (append_assoc part (take (room - length part) rest) further) ∙ ap (λ t. t ++ further) (sym front) ∙ reads.1) in
        absurd (omega (arith, many, few))
