-- The head of a response behind interim heads, as they are parsed one by one.
use Rattle.std.proofs.Common.{◌≡◌, ◌≤◌, ◌-◌, ℕ, List, [], ◌∷◌, ◌++◌, length, take, drop, true, false}
use Rattle.std.proofs.Common.{sym, ap, arith, ◌∙◌, append_assoc, Result, Ok}
use Rattle.std.specs.Prelude.{IsTrue, ◌↔◌, Bool}
use Rattle.std.proofs.lemmas.Bool.{true≢false}
use Rattle.std.proofs.lemmas.List.{drop_at, length-append, take-append-drop}
use Rattle.std.proofs.lemmas.List.Elements.{All-cons, All-tail}
use Rattle.httparse.specs.Grammar.{ResponseHead, print_response}
use Rattle.httparse.specs.Outcome.{IsCompleteAnd}
use Rattle.httparse.specs.Spans.{FindsResponse, IsResponseAt, IsResponseOf, IsResponseWithin}
use Rattle.httparse.specs.declared.Error.{Error}
use Rattle.httparse.specs.declared.Status.{Status}
use Rattle.httparse.specs.declared.Status.TheVariants.{Complete}
use Rattle.httparse.specs.declared.spans.ResponseSpans.{ResponseSpans}
use Rattle.httparse.specs.declared.spans.HeaderSpan.{HeaderSpan}
use Rattle.feed_http_heads.specs.Limits.{head_limit, field_limit}
use Rattle.feed_http_heads.specs.ResponseHeads.{BeginsWithHeads, IsInterimHead, print_heads, is_interim, is_interim_status}
use Rattle.feed_http_heads.proofs.BufferFilling.{front_of}
use Rattle.feed_http_heads.proofs.ResponseReading.{counted}
use Rattle.node_file_checks.specs.FileTypes.{HasOtherType, is_of_other_file}

abbrev pub Begins : List ℕ → List ResponseHead → ResponseHead → List ℕ → Type 0
Begins text interim head rest = BeginsWithHeads head_limit field_limit text interim head rest

-- the texts begin with the same head, after interim ones
pub record HasSameHead (text part : List ℕ) : Type 0 where
  pub down : (interim : List ResponseHead) (head : ResponseHead) (rest : List ℕ) → Begins text interim head rest
      → (more : List ResponseHead) × (tail : List ℕ) × Begins part more head tail
  pub up : (interim : List ResponseHead) (head : ResponseHead) (rest : List ℕ) → Begins part interim head rest
      → (more : List ResponseHead) × (tail : List ℕ) × Begins text more head tail

-- so does the front of a text within the limit
pub in_front : (text : List ℕ) → HasSameHead text (take head_limit text)
in_front text = record { down = into_front text; up = behind_front text }
  where
    into_front : (text : List ℕ) (interim : List ResponseHead) (head : ResponseHead) (rest : List ℕ) → Begins text interim head rest
        → (more : List ResponseHead) × (tail : List ℕ) × Begins (take head_limit text) more head tail
    into_front text interim head rest b =
        let heads : List ℕ = print_heads interim ++ print_response head in
        let fits : length heads ≤ head_limit = omega (arith, length-append (print_heads interim) (print_response head), b.short) in (
          interim,
          take (head_limit - length heads) rest,
          record {
            skipped = b.skipped;
            valid = b.valid;
            last = b.last;
            text_is = ap (take head_limit) b.text_is ∙ front_of head_limit heads rest fits;
            short = b.short;
            few = b.few;
          },
        )

    behind_front : (text : List ℕ) (interim : List ResponseHead) (head : ResponseHead) (rest : List ℕ) → Begins (take head_limit text) interim head rest
        → (more : List ResponseHead) × (tail : List ℕ) × Begins text more head tail
    behind_front text interim head rest b = (
      interim,
      rest ++ drop head_limit text,
      record {
        skipped = b.skipped;
        valid = b.valid;
        last = b.last;
        text_is = sym (take-append-drop head_limit text) ∙ ap (λ t. t ++ drop head_limit text) b.text_is
            ∙ append_assoc (print_heads interim ++ print_response head) rest (drop head_limit text);
        short = b.short;
        few = b.few;
      },
    )

regroup : (a b c d : List ℕ) → a ++ b ++ c ++ d ≡ a ++ (b ++ c ++ d)
regroup a b c d = ap (λ t. t ++ d) (append_assoc a b c) ∙ append_assoc a (b ++ c) d

-- an interim head is followed by another one
ahead : (text : List ℕ) (headers : List HeaderSpan) (spans : ResponseSpans) (first : ResponseHead) (interim : List ResponseHead) (head : ResponseHead) (rest : List ℕ)
    → Begins text (first ∷ interim) head rest → IsResponseAt text headers spans first → Begins (drop spans.len text) interim head rest
ahead text headers spans first interim head rest b at = record {
  skipped = All-tail (IsInterimHead field_limit) first interim b.skipped;
  valid = b.valid;
  last = b.last;
  text_is = ap (drop spans.len) (b.text_is ∙ regroup (print_response first) (print_heads interim) (print_response head) rest)
      ∙ drop_at (print_response first) (print_heads interim ++ print_response head ++ rest) spans.len (sym at.len);
  short = omega (arith, b.short, length-append (print_response first) (print_heads interim));
  few = b.few;
}

behind : (text : List ℕ) (headers : List HeaderSpan) (spans : ResponseSpans) (first : ResponseHead) (interim : List ResponseHead) (head : ResponseHead) (rest : List ℕ)
    → length text ≤ head_limit → length headers ≤ field_limit → IsResponseWithin text headers spans → IsResponseAt text headers spans first → is_interim first ≡ true
    → Begins (drop spans.len text) interim head rest → Begins text (first ∷ interim) head rest
behind text headers spans first interim head rest fits room within at is b =
    let heads : List ℕ = print_response first ++ print_heads interim in
    let whole : text ≡ heads ++ print_response head ++ rest =
    at.reads.1 ∙ ap (λ t. print_response first ++ t) b.text_is ∙ sym (regroup (print_response first) (print_heads interim) (print_response head) rest) in
    let long : length text ≡ length (heads ++ print_response head ++ rest) = ap length whole in
    record {
      skipped = All-cons (IsInterimHead field_limit) first interim
          (record { valid = at.reads.0; interim = is; few = omega (arith, counted text headers spans first within at, room) }) b.skipped;
      valid = b.valid;
      last = b.last;
      text_is = whole;
      short = omega (arith, long, length-append (heads ++ print_response head) rest, length-append heads (print_response head), fits);
      few = b.few;
    }

-- the parser finds the head that is first
first_interim : (text : List ℕ) (headers : List HeaderSpan) (result : Result (Status ResponseSpans) Error) (first : ResponseHead) (interim : List ResponseHead) (head : ResponseHead) (rest : List ℕ)
    → FindsResponse text field_limit headers result → Begins text (first ∷ interim) head rest → IsCompleteAnd result (λ spans. IsResponseAt text headers spans first)
first_interim text headers result first interim head rest finds b =
    let it : IsInterimHead field_limit first = b.skipped 0 first (omega arith) in
    finds first (print_heads interim ++ print_response head ++ rest)
    (it.valid, b.text_is ∙ regroup (print_response first) (print_heads interim) (print_response head) rest) it.few

only_head : (text : List ℕ) (headers : List HeaderSpan) (result : Result (Status ResponseSpans) Error) (head : ResponseHead) (rest : List ℕ)
    → FindsResponse text field_limit headers result → Begins text [] head rest → IsCompleteAnd result (λ spans. IsResponseAt text headers spans head)
only_head text headers result head rest finds b = finds head rest (b.valid, b.text_is) b.few

-- the part behind an interim head has the same head
pub same_behind : (text part : List ℕ) (headers : List HeaderSpan) (spans : ResponseSpans) → HasSameHead text part
    → FindsResponse part field_limit headers (Ok (Complete spans)) → IsResponseWithin part headers spans → IsResponseOf part headers spans
    → is_interim_status spans.code ≡ true → length part ≤ head_limit → length headers ≤ field_limit → HasSameHead text (drop spans.len part)
same_behind text part headers spans same finds within of interim fits room = record {
  down = λ before head rest b. (let d = same.down before head rest b in step d.0 head d.1 d.2);
  up = λ before head rest b. same.up (of.0 ∷ before) head rest
      (behind part headers spans of.0 before head rest fits room within of.1 (ap is_interim_status (sym of.1.code) ∙ interim) b);
}
  where
    step : (before : List ResponseHead) (head : ResponseHead) (rest : List ℕ) → Begins part before head rest
        → (more : List ResponseHead) × (tail : List ℕ) × Begins (drop spans.len part) more head tail
    step [] head rest b =
        let at : IsResponseAt part headers spans head = only_head part headers (Ok (Complete spans)) head rest finds b in
        absurd (true≢false (sym interim ∙ ap is_interim_status at.code ∙ b.last))
    step (first ∷ before) head rest b =
        (before, rest, ahead part headers spans first before head rest b (first_interim part headers (Ok (Complete spans)) first before head rest finds b))

-- a head that is not interim is the head
pub is_head : (text part : List ℕ) (headers : List HeaderSpan) (spans : ResponseSpans) (result : Bool) → HasSameHead text part
    → FindsResponse part field_limit headers (Ok (Complete spans)) → IsResponseWithin part headers spans → IsResponseOf part headers spans
    → is_interim_status spans.code ≡ false → length part ≤ head_limit → length headers ≤ field_limit
    → ((head : ResponseHead) → IsResponseAt part headers spans head → result ≡ is_of_other_file head) → IsTrue result ↔ HasOtherType text
is_head text part headers spans result same finds within of last fits room is = (to, from)
  where
    to : IsTrue result → HasOtherType text
    to so =
        let long : length part ≡ length (print_response of.0 ++ drop spans.len part) = ap length of.1.reads.1 in
        let b : Begins part [] of.0 (drop spans.len part) = record {
          skipped = λ k d below. absurd (omega arith);
          valid = of.1.reads.0;
          last = ap is_interim_status (sym of.1.code) ∙ last;
          text_is = of.1.reads.1;
          short = omega (arith, long, length-append (print_response of.0) (drop spans.len part), fits);
          few = omega (arith, counted part headers spans of.0 within of.1, room);
        } in
        let u = same.up [] of.0 (drop spans.len part) b in
        record { interim = u.0; head = of.0; rest = u.1; begins = u.2; is = sym (is of.0 of.1) ∙ so }

    given : (before : List ResponseHead) (head : ResponseHead) (rest : List ℕ) → Begins part before head rest → is_of_other_file head ≡ true → IsTrue result
    given [] head rest b other = is head (only_head part headers (Ok (Complete spans)) head rest finds b) ∙ other
    given (first ∷ before) head rest b other =
        let at : IsResponseAt part headers spans first = first_interim part headers (Ok (Complete spans)) first before head rest finds b in
        let it : IsInterimHead field_limit first = b.skipped 0 first (omega arith) in
        absurd (true≢false (sym it.interim ∙ ap is_interim_status (sym at.code) ∙ last))

    from : HasOtherType text → IsTrue result
    from other = let d = same.down other.interim other.head other.rest other.begins in given d.0 other.head d.1 d.2 other.is

-- no head is found
pub no_head : (text part : List ℕ) (headers : List HeaderSpan) (result : Result (Status ResponseSpans) Error) → HasSameHead text part
    → FindsResponse part field_limit headers result → ((P : ResponseSpans → Type 0) → IsCompleteAnd result P → ⊥) → IsTrue false ↔ HasOtherType text
no_head text part headers result same finds none = (λ so. absurd (true≢false (sym so)), from)
  where
    none_begins : (before : List ResponseHead) (head : ResponseHead) (rest : List ℕ) → Begins part before head rest → ⊥
    none_begins [] head rest b = none (λ spans. IsResponseAt part headers spans head) (only_head part headers result head rest finds b)
    none_begins (first ∷ before) head rest b = none (λ spans. IsResponseAt part headers spans first) (first_interim part headers result first before head rest finds b)

    from : HasOtherType text → IsTrue false
    from other = let d = same.down other.interim other.head other.rest other.begins in absurd (none_begins d.0 other.head d.1 d.2)
