-- The values under a name, as the parser's spans and as the fields of a head have them.
use Rattle.std.proofs.Common.{◌≡◌, ◌<◌, ℕ, List, [], ◌∷◌, ◌++◌, length, take, drop, get_or, true}
use Rattle.std.proofs.Common.{Option, None, Some, refl, sym, ap, ◌∙◌, inl, inr, arith, map, suc, drop-cons}
use Rattle.std.specs.Prelude.{if◌then◌else◌, ◌&&◌, Bool}
use Rattle.std.specs.List.{filter, list_all}
use Rattle.std.specs.Option.{option_map, option_to_list, is_some}
use Rattle.std.specs.Str.{str_eq_ignore_ascii_case}
use Rattle.std.proofs.lemmas.Bool.{cases_Bool, false≢true}
use Rattle.std.proofs.lemmas.List.{take_all, take-append-drop, map-append}
use Rattle.std.proofs.lemmas.List.Elements.{filter-append}
use Rattle.httparse.specs.Grammar.{Field, field_value}
use Rattle.httparse.specs.Spans.{span_bytes, header_bytes, name_and_value, AreFieldsAt}
use Rattle.httparse.specs.declared.spans.Span.{Span}
use Rattle.httparse.specs.declared.spans.HeaderSpan.{HeaderSpan}
use Rattle.feed_http_heads.specs.Fields.{is_named, spans_named, values_named, only, has_any, first_of, has_other_name_or}

abbrev values_of : List ℕ → List (List ℕ × List ℕ) → List (List ℕ)
values_of name [] = []
values_of name (pair ∷ pairs) = if str_eq_ignore_ascii_case pair.0 name then pair.1 ∷ values_of name pairs else values_of name pairs

values_of-fields : (name : List ℕ) (fields : List Field) → values_named name fields ≡ values_of name (map name_and_value fields)
values_of-fields name [] = refl
values_of-fields name (f ∷ fs) = elim (cases_Bool (str_eq_ignore_ascii_case f.name name)) [
  | inl e ↦ rw e (ap (λ t. field_value f ∷ t) (values_of-fields name fs))
  | inr e ↦ rw e (values_of-fields name fs)
]

values_of-spans : (buffer name : List ℕ) (hs : List HeaderSpan)
    → map (span_bytes buffer) (spans_named buffer name hs) ≡ values_of name (map (header_bytes buffer) hs)
values_of-spans buffer name [] = refl
values_of-spans buffer name (h ∷ hs) = elim (cases_Bool (str_eq_ignore_ascii_case (span_bytes buffer h.name) name)) [
  | inl e ↦ rw e (ap (λ t. span_bytes buffer h.value ∷ t) (values_of-spans buffer name hs))
  | inr e ↦ rw e (values_of-spans buffer name hs)
]

-- what the spans cover are the values of the fields
pub values_are : (buffer name : List ℕ) (hs : List HeaderSpan) (fields : List Field) → AreFieldsAt buffer hs (length hs) fields
    → map (span_bytes buffer) (spans_named buffer name hs) ≡ values_named name fields
values_are buffer name hs fields are =
    let same : map (header_bytes buffer) hs ≡ map name_and_value fields = ap (map (header_bytes buffer)) (sym (take_all (length hs) hs (omega arith))) ∙ are in
    values_of-spans buffer name hs ∙ ap (values_of name) same ∙ sym (values_of-fields name fields)

only-map : (f : Span → List ℕ) (spans : List Span) → only (map f spans) ≡ option_map f (only spans)
only-map f [] = refl
only-map f (s ∷ []) = refl
only-map f (s ∷ t ∷ more) = refl

-- the only span covers the only value
pub only_value : (buffer name : List ℕ) (hs : List HeaderSpan) (found : Option Span) → found ≡ only (spans_named buffer name hs)
    → (fields : List Field) → AreFieldsAt buffer hs (length hs) fields → option_map (span_bytes buffer) found ≡ only (values_named name fields)
only_value buffer name hs found is fields are =
    ap (option_map (span_bytes buffer)) is ∙ sym (only-map (span_bytes buffer) (spans_named buffer name hs)) ∙ ap only (values_are buffer name hs fields are)

-- there is a value where there is a span, and none where there is none
pub some_value : (buffer name : List ℕ) (hs : List HeaderSpan) (b : Bool) → b ≡ has_any (spans_named buffer name hs)
    → (fields : List Field) → AreFieldsAt buffer hs (length hs) fields → b ≡ has_any (values_named name fields)
some_value buffer name hs b is fields are =
    is ∙ has_any-map (spans_named buffer name hs) ∙ ap has_any (values_are buffer name hs fields are)
  where
    has_any-map : (spans : List Span) → has_any spans ≡ has_any (map (span_bytes buffer) spans)
    has_any-map [] = refl
    has_any-map (s ∷ spans) = refl

spans-append : (buffer name : List ℕ) (hs ks : List HeaderSpan) → spans_named buffer name (hs ++ ks) ≡ spans_named buffer name hs ++ spans_named buffer name ks
spans-append buffer name hs ks = ap (map (λ (h : HeaderSpan). h.value)) (filter-append (is_named buffer name) hs ks)
    ∙ map-append (λ (h : HeaderSpan). h.value) (filter (is_named buffer name) hs) (filter (is_named buffer name) ks)

spans-cons : (buffer name : List ℕ) (h : HeaderSpan) (hs : List HeaderSpan) → is_named buffer name h ≡ true → spans_named buffer name (h ∷ hs) ≡ h.value ∷ spans_named buffer name hs
spans-cons buffer name h hs named = rw named refl

-- the spans, cut at a header of that name
pub spans-cut : (buffer name : List ℕ) (hs : List HeaderSpan) (i : ℕ) (d : HeaderSpan) → i < length hs → is_named buffer name (get_or hs i d) ≡ true
    → spans_named buffer name hs ≡ spans_named buffer name (take i hs) ++ (get_or hs i d).value ∷ spans_named buffer name (drop (suc i) hs)
spans-cut buffer name hs i d below named =
    let cut : hs ≡ take i hs ++ get_or hs i d ∷ drop (suc i) hs = sym (take-append-drop i hs) ∙ ap (λ t. take i hs ++ t) (drop-cons hs i d below) in
    ap (spans_named buffer name) cut ∙ spans-append buffer name (take i hs) (get_or hs i d ∷ drop (suc i) hs)
    ∙ ap (λ t. spans_named buffer name (take i hs) ++ t) (spans-cons buffer name (get_or hs i d) (drop (suc i) hs) named)

-- a header of that name shows that there is a value
pub some_span : (buffer name : List ℕ) (hs : List HeaderSpan) (i : ℕ) (d : HeaderSpan) → i < length hs → is_named buffer name (get_or hs i d) ≡ true
    → true ≡ has_any (spans_named buffer name hs)
some_span buffer name hs i d below named = rw (spans-cut buffer name hs i d below named) (behind (spans_named buffer name (take i hs)))
  where
    behind : (front : List Span) → true ≡ has_any (front ++ (get_or hs i d).value ∷ spans_named buffer name (drop (suc i) hs))
    behind [] = refl
    behind (s ∷ front) = refl

-- and behind another one that there are several
pub several_spans : (buffer name : List ℕ) (hs : List HeaderSpan) (found : Option Span) (i : ℕ) (d : HeaderSpan) → i < length hs → is_named buffer name (get_or hs i d) ≡ true
    → spans_named buffer name (take i hs) ≡ option_to_list found → true ≡ is_some found → None ≡ only (spans_named buffer name hs)
several_spans buffer name hs None i d below named before some = absurd (false≢true (sym some))
several_spans buffer name hs (Some span) i d below named before some = rw (spans-cut buffer name hs i d below named, before) refl

-- each header passes if each value does
all_agree : (test : List ℕ → Bool) (buffer name : List ℕ) (hs : List HeaderSpan)
    → list_all (has_other_name_or test buffer name) hs ≡ list_all test (map (span_bytes buffer) (spans_named buffer name hs))
all_agree test buffer name [] = refl
all_agree test buffer name (h ∷ hs) = elim (cases_Bool (is_named buffer name h)) [
  | inl e ↦ rw e (ap (λ b. test (span_bytes buffer h.value) && b) (all_agree test buffer name hs))
  | inr e ↦ rw e (all_agree test buffer name hs)
]

pub all_values : (test : List ℕ → Bool) (buffer name : List ℕ) (hs : List HeaderSpan) (b : Bool) → b ≡ list_all (has_other_name_or test buffer name) hs
    → (fields : List Field) → AreFieldsAt buffer hs (length hs) fields → b ≡ list_all test (values_named name fields)
all_values test buffer name hs b is fields are = is ∙ all_agree test buffer name hs ∙ ap (list_all test) (values_are buffer name hs fields are)

first-map : (f : Span → List ℕ) (spans : List Span) → first_of (map f spans) ≡ option_map f (first_of spans)
first-map f [] = refl
first-map f (s ∷ spans) = refl

-- the first span covers the first value
pub first_value : (buffer name : List ℕ) (hs : List HeaderSpan) (found : Option Span) → found ≡ first_of (spans_named buffer name hs)
    → (fields : List Field) → AreFieldsAt buffer hs (length hs) fields → option_map (span_bytes buffer) found ≡ first_of (values_named name fields)
first_value buffer name hs found is fields are =
    ap (option_map (span_bytes buffer)) is ∙ sym (first-map (span_bytes buffer) (spans_named buffer name hs)) ∙ ap first_of (values_are buffer name hs fields are)

-- a header of that name behind others is the first
pub first_found : (buffer name : List ℕ) (hs : List HeaderSpan) (i : ℕ) (d : HeaderSpan) → i < length hs → is_named buffer name (get_or hs i d) ≡ true
    → spans_named buffer name (take i hs) ≡ [] → Some (get_or hs i d).value ≡ first_of (spans_named buffer name hs)
first_found buffer name hs i d below named none = rw (spans-cut buffer name hs i d below named, none) refl
