-- A text of ASCII whose bytes stand for themselves is written as it is.
use Rattle.std.proofs.Common.{◌≡◌, ℕ, ◌<◌, ◌≤◌, List, [], ◌∷◌, ◌++◌, true, false, refl, ap, ◌∙◌, inl, inr, arith, lit≤, Bool, subst}
use Rattle.std.proofs.lemmas.Bool.{and_parts, cases_Bool, le-ltb, ltb-false, ltb-true, ne_eqb, not-true, or_parts}
use Rattle.std.proofs.lemmas.Bool.Decides.{nat_tests}
use Rattle.std.proofs.lemmas.Str.{IsUtf8-append, IsUtf8-encode, IsUtf8-nil, encode_ascii, is_utf8-from_IsUtf8}
use Rattle.std.specs.Prelude.{◌==◌, ◌||◌, nat_lt, if◌then◌else◌}
use Rattle.std.specs.List.{list_all}
use Rattle.std.specs.Str.{IsUtf8, is_utf8}
use lib.Utf8.{scalar}
use Rattle.node_response.specs.Escapes.{escape_byte, escaped, escaped_bytes, is_markup}
use Rattle.node_response.specs.Utf8.{from_windows_1252, in_utf8}
use Rattle.node_templates.specs.PlainTexts.{is_plain}

-- a byte above `>` differs from those below
above : (b k : ℕ) → nat_lt 62 b ≡ true → k ≤ 62 → (b == k) ≡ false
above b k h below = let more : 62 < b = ltb-true 62 b h in ne_eqb b k (λ e. absurd (omega arith))

escape-plain : (b : ℕ) → is_plain b ≡ true → escape_byte b ≡ b ∷ []
escape-plain b h = elim (cases_Bool (nat_lt 62 b)) [
  | inl e ↦
      let high : b < 127 = ltb-true b 127 (rw e at h) in
      let last : (b == 127) ≡ false = ne_eqb b 127 (λ same. absurd (omega arith)) in
      let more : 62 < b = ltb-true 62 b e in
      let low : nat_lt b 32 ≡ false = le-ltb b 32 (omega arith) in
      rw (above b 60 e (lit≤ tt), above b 62 e (lit≤ tt), above b 34 e (lit≤ tt), above b 39 e (lit≤ tt), above b 38 e (lit≤ tt), low, last) refl
  | inr e ↦
      let tests : (is_markup b || ((b == 38) || nat_lt b 32)) ≡ false = not-true (is_markup b || ((b == 38) || nat_lt b 32)) (rw e at h) in
      let parts = or_parts (is_markup b) ((b == 38) || nat_lt b 32) tests in
      let last = or_parts ((b == 60) || (b == 62) || (b == 34)) (b == 39) parts.0 in
      let quote = or_parts ((b == 60) || (b == 62)) (b == 34) last.0 in
      let angle = or_parts (b == 60) (b == 62) quote.0 in
      let rest = or_parts (b == 38) (nat_lt b 32) parts.1 in
      let least : b ≤ 62 = ltb-false 62 b e in
      let high : (b == 127) ≡ false = ne_eqb b 127 (λ same. absurd (omega arith)) in
      rw (angle.0, angle.1, quote.1, last.1, rest.0, rest.1, high) refl
]

plain_bytes : (text : List ℕ) → list_all is_plain text ≡ true → escaped_bytes text ≡ text
plain_bytes [] h = refl
plain_bytes (b ∷ text) h =
    let parts = and_parts (is_plain b) (list_all is_plain text) h in
    ap (λ (e : List ℕ). e ++ escaped_bytes text) (escape-plain b parts.0) ∙ ap (λ (t : List ℕ). b ∷ t) (plain_bytes text parts.1)

plain_small : (b : ℕ) → is_plain b ≡ true → b < 127
plain_small b h = elim (cases_Bool (nat_lt 62 b)) [
  | inl e ↦ ltb-true b 127 (rw e at h)
  | inr e ↦ let least : b ≤ 62 = ltb-false 62 b e in omega arith
]

small_scalar : (b : ℕ) → b < 127 → scalar b ≡ true
small_scalar b small = grind (arith, nat_tests)

small_utf8 : (test : ℕ → Bool) → ((b : ℕ) → test b ≡ true → b < 127) → (text : List ℕ) → list_all test text ≡ true → IsUtf8 text
small_utf8 test small [] h = IsUtf8-nil
small_utf8 test small (b ∷ text) h =
    let parts = and_parts (test b) (list_all test text) h in
    let below : b < 127 = small b parts.0 in
    IsUtf8-append (b ∷ []) text (subst IsUtf8 (encode_ascii b (omega arith)) (IsUtf8-encode b (small_scalar b below))) (small_utf8 test small text parts.1)

utf8_as_is : (text : List ℕ) → is_utf8 text ≡ true → in_utf8 text ≡ text
unfolding in_utf8
utf8_as_is text h = ap (λ (t : Bool). if t then text else from_windows_1252 text) h

-- a text of ASCII is taken as it is
pub as_it_is : (test : ℕ → Bool) → ((b : ℕ) → test b ≡ true → b < 127) → (text : List ℕ) → list_all test text ≡ true → in_utf8 text ≡ text
as_it_is test small text h = utf8_as_is text (is_utf8-from_IsUtf8 text (small_utf8 test small text h))

pub escaped_plain : (text : List ℕ) → list_all is_plain text ≡ true → escaped text ≡ text
escaped_plain text h = ap escaped_bytes (as_it_is is_plain plain_small text h) ∙ plain_bytes text h
