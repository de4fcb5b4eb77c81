-- The value of the last header of a name, header by header.
use Rattle.std.proofs.Common.{◌≡◌, ◌<◌, ◌+◌, ℕ, List, [], ◌∷◌, ◌++◌, length, take, get_or, map, refl, ap, sym, ◌∙◌, inl, inr}
use Rattle.std.proofs.lemmas.Bool.{cases_Bool}
use Rattle.std.proofs.lemmas.List.{take_more}
use Rattle.httparse.specs.Grammar.{Field}
use Rattle.httparse.specs.Spans.{span_bytes, AreFieldsAt}
use Rattle.httparse.specs.declared.spans.HeaderSpan.{HeaderSpan}
use Rattle.feed_http_heads.specs.Fields.{is_named, spans_named, values_named}
use Rattle.feed_http_heads.proofs.NamedFields.{values_are}
use Rattle.node_monitoring.specs.Forwarded.{last_of}
use Rattle.node_monitoring.specs.LastValues.{value_or}

abbrev pub values_in : List ℕ → List ℕ → List HeaderSpan → List (List ℕ)
values_in buffer name hs = map (span_bytes buffer) (spans_named buffer name hs)

values-append : (buffer name : List ℕ) (hs ks : List HeaderSpan) → values_in buffer name (hs ++ ks) ≡ values_in buffer name hs ++ values_in buffer name ks
values-append buffer name [] ks = refl
values-append buffer name (h ∷ hs) ks = elim (cases_Bool (is_named buffer name h)) [
  | inl e ↦ rw e (ap (λ t. span_bytes buffer h.value ∷ t) (values-append buffer name hs ks))
  | inr e ↦ rw e (values-append buffer name hs ks)
]

last-end : (texts : List (List ℕ)) (text : List ℕ) → last_of (texts ++ text ∷ []) ≡ text
last-end [] text = refl
last-end (one ∷ []) text = refl
last-end (one ∷ two ∷ texts) text = last-end (two ∷ texts) text

last-nil : (texts : List (List ℕ)) → last_of (texts ++ []) ≡ last_of texts
last-nil [] = refl
last-nil (one ∷ []) = refl
last-nil (one ∷ two ∷ texts) = last-nil (two ∷ texts)

next : (buffer name : List ℕ) (before : List (List ℕ)) (h : HeaderSpan) → value_or buffer name h (last_of before) ≡ last_of (before ++ values_in buffer name (h ∷ []))
next buffer name before h = elim (cases_Bool (is_named buffer name h)) [
  | inl e ↦ rw e (sym (last-end before (span_bytes buffer h.value)))
  | inr e ↦ rw e (sym (last-nil before))
]

pub next_value : (buffer name : List ℕ) (hs : List HeaderSpan) (i : ℕ) (d : HeaderSpan) (value new : List ℕ) → i < length hs
    → value ≡ last_of (values_in buffer name (take i hs)) → new ≡ value_or buffer name (get_or hs i d) value → new ≡ last_of (values_in buffer name (take (i + 1) hs))
next_value buffer name hs i d value new below was is =
    is ∙ ap (λ v. value_or buffer name (get_or hs i d) v) was ∙ next buffer name (values_in buffer name (take i hs)) (get_or hs i d)
    ∙ ap last_of (sym (values-append buffer name (take i hs) (get_or hs i d ∷ [])) ∙ ap (values_in buffer name) (sym (take_more hs i d below)))

pub all_values : (buffer name : List ℕ) (hs : List HeaderSpan) (rest : List HeaderSpan) (value : List ℕ) (fields : List Field) → rest ≡ hs → value ≡ last_of (values_in buffer name rest)
    → AreFieldsAt buffer hs (length hs) fields → value ≡ last_of (values_named name fields)
all_values buffer name hs rest value fields whole was are = was ∙ ap last_of (ap (values_in buffer name) whole ∙ values_are buffer name hs fields are)
