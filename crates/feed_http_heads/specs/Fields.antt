-- The fields of a head by name, ignoring case (RFC 9110, section 5.1).
use Rattle.std.specs.Prelude.{ℕ, List, [], ◌∷◌, map, length, All, Bool, true, false, not, ◌||◌, Option, Some, None}
use Rattle.std.specs.List.{filter}
use Rattle.std.specs.Str.{str_eq_ignore_ascii_case}
use Rattle.httparse.specs.Grammar.{Field, field_value}
use Rattle.httparse.specs.Spans.{span_bytes, IsHeaderWithin, AreFieldsAt}
use Rattle.httparse.specs.declared.spans.Span.{Span}
use Rattle.httparse.specs.declared.spans.HeaderSpan.{HeaderSpan}
use Rattle.feed_http_heads.specs.declared.fields.Fields.{Fields}

-- the values of the fields of that name, in their order
abbrev pub values_named : List ℕ → List Field → List (List ℕ)
values_named name fields = map field_value (filter (λ field. str_eq_ignore_ascii_case field.name name) fields)

-- the value, if there is exactly one
abbrev pub only : {A : Type 0} → List A → Option A
only [] = None
only (value ∷ []) = Some value
only (value ∷ other ∷ more) = None

-- there is a value
abbrev pub has_any : {A : Type 0} → List A → Bool
has_any [] = false
has_any (value ∷ values) = true

-- the first value
abbrev pub first_of : {A : Type 0} → List A → Option A
first_of [] = None
first_of (value ∷ values) = Some value

-- the same for the spans that the parser returns

-- the header's name is this one
abbrev pub is_named : List ℕ → List ℕ → HeaderSpan → Bool
is_named buffer name header = str_eq_ignore_ascii_case (span_bytes buffer header.name) name

-- the places of the values of the fields of that name
abbrev pub spans_named : List ℕ → List ℕ → List HeaderSpan → List Span
spans_named buffer name headers = map (λ header. header.value) (filter (is_named buffer name) headers)

-- the header has another name, or a value that passes the test
abbrev pub has_other_name_or : (List ℕ → Bool) → List ℕ → List ℕ → HeaderSpan → Bool
has_other_name_or test buffer name header = not (is_named buffer name header) || test (span_bytes buffer header.value)

-- the headers are inside the buffer
abbrev pub AreWithin : Fields → Type 0
AreWithin found = All (IsHeaderWithin (length found.buffer.now)) found.headers.now

-- they cover these fields
abbrev pub AreFieldsOf : Fields → List Field → Type 0
AreFieldsOf found fields = AreFieldsAt found.buffer.now found.headers.now (length found.headers.now) fields
