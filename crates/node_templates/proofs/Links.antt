-- A value that is safe in a link begins an address that is safe, escaped too.
use Rattle.std.proofs.Common.{◌≡◌, ℕ, Bool, List, [], ◌∷◌, ◌++◌, codes, take, length, true, false, refl, ap, ◌∙◌, sym, inl, inr, arith}
use Rattle.std.proofs.lemmas.Bool.Decides.{nat_tests}
use Rattle.std.proofs.lemmas.Bool.{and_from, and_parts, cases_Bool, eqb-true, eqb-false, ltb-true, ltb-false, lt-ltb, not-true, or_cases, or_from}
use Rattle.std.proofs.lemmas.Bool.{or_left, or_parts, or_right}
use Rattle.std.specs.Prelude.{◌==◌, ◌&&◌, ◌||◌, ◌<◌, ◌≤◌, if◌then◌else◌, is_some, map, nat_le, nat_lt, not, drop, Some, None}
use Rattle.std.specs.Char.{to_ascii_lowercase}
use Rattle.std.specs.List.{list_all}
use Rattle.std.specs.Str.{bytes_eq, str_eq_ignore_ascii_case}
use Rattle.node_response.specs.Escapes.{escape_byte, escaped, escaped_bytes, is_control, is_markup}
use Rattle.node_site.specs.Hosts.{host_behind, host_of, is_link}
use Rattle.node_site.specs.Urls.{begins_with, has_byte, is_visible, url_limit}
use Rattle.node_templates.specs.Tags.{has_front, is_absolute, is_local, is_safe, Place, OwnPage, OtherPage}
use Rattle.node_templates.proofs.PlainTexts.{as_it_is}

-- a byte of a front that is not escaped in any case of letters
abbrev is_plain : ℕ → Bool
is_plain a = not (is_markup (to_ascii_lowercase a)) && (not (to_ascii_lowercase a == 38) && not (is_control (to_ascii_lowercase a)))

-- a byte that is this one in some case of letters differs from another one that is not a letter
other : (a b k : ℕ) → to_ascii_lowercase k ≡ k → (to_ascii_lowercase a == k) ≡ false → to_ascii_lowercase b ≡ to_ascii_lowercase a → (b == k) ≡ false
other a b k same differs h = elim (cases_Bool (b == k)) [
  | inl e ↦ absurd (eqb-false (to_ascii_lowercase a) k differs (sym h ∙ ap to_ascii_lowercase (eqb-true b k e) ∙ same))
  | inr e ↦ e
]

lower-below : (b : ℕ) → b < 32 → to_ascii_lowercase b ≡ b
lower-below b below = let e : nat_lt b 65 ≡ true = lt-ltb b 65 (omega arith) in rw e refl

uncontrolled : (a b : ℕ) → is_control (to_ascii_lowercase a) ≡ false → to_ascii_lowercase b ≡ to_ascii_lowercase a → is_control b ≡ false
uncontrolled a b plain h =
    let parts = or_parts (nat_lt (to_ascii_lowercase a) 32) (to_ascii_lowercase a == 127) plain in
    or_from (nat_lt b 32) (b == 127)
    (elim (cases_Bool (nat_lt b 32)) [
      | inl e ↦
          let below = ltb-true b 32 e in
          let least : 32 ≤ to_ascii_lowercase a = ltb-false (to_ascii_lowercase a) 32 parts.0 in
          let same : b ≡ to_ascii_lowercase a = sym (lower-below b below) ∙ h in
          absurd (omega arith)
      | inr e ↦ e
    ])
    (other a b 127 refl parts.1 h)

escape-plain : (b : ℕ) → (b == 60) ≡ false → (b == 62) ≡ false → (b == 34) ≡ false → (b == 39) ≡ false → (b == 38) ≡ false → is_control b ≡ false
    → escape_byte b ≡ b ∷ []
escape-plain b e60 e62 e34 e39 e38 c = rw (e60, e62, e34, e39, e38, c) refl

plain_byte : (a b : ℕ) → is_plain a ≡ true → (to_ascii_lowercase b == to_ascii_lowercase a) ≡ true → escape_byte b ≡ b ∷ []
plain_byte a b plain h =
    let low = to_ascii_lowercase a in
    let parts = and_parts (not (is_markup low)) (not (low == 38) && not (is_control low)) plain in
    let more = and_parts (not (low == 38)) (not (is_control low)) parts.1 in
    let last = or_parts ((low == 60) || (low == 62) || (low == 34)) (low == 39) (not-true (is_markup low) parts.0) in
    let quote = or_parts ((low == 60) || (low == 62)) (low == 34) last.0 in
    let first = or_parts (low == 60) (low == 62) quote.0 in
    let same : to_ascii_lowercase b ≡ low = eqb-true (to_ascii_lowercase b) low h in
    escape-plain b (other a b 60 refl first.0 same) (other a b 62 refl first.1 same) (other a b 34 refl quote.1 same) (other a b 39 refl last.1 same)
    (other a b 38 refl (not-true (low == 38) more.0) same) (uncontrolled a b (not-true (is_control low) more.1) same)

-- a front stays in front
front-escaped : (front text rest : List ℕ) → list_all is_plain front ≡ true
    → bytes_eq (map to_ascii_lowercase (take (length front) text)) (map to_ascii_lowercase front) ≡ true → has_front front (escaped_bytes text ++ rest) ≡ true
front-escaped [] text rest plain h = refl
front-escaped (a ∷ front) [] rest plain h = cc
front-escaped (a ∷ front) (b ∷ text) rest plain h =
    let plains = and_parts (is_plain a) (list_all is_plain front) plain in
    let same =
    and_parts (to_ascii_lowercase b == to_ascii_lowercase a) (bytes_eq (map to_ascii_lowercase (take (length front) text)) (map to_ascii_lowercase front)) h in
    ap (λ (e : List ℕ). has_front (a ∷ front) ((e ++ escaped_bytes text) ++ rest)) (plain_byte a b plains.0 same.0)
    ∙ and_from (to_ascii_lowercase b == to_ascii_lowercase a) (has_front front (escaped_bytes text ++ rest)) same.0
    (front-escaped front text rest plains.1 same.1)

begins-escaped : (front text rest : List ℕ) → list_all is_plain front ≡ true → begins_with front text ≡ true
    → has_front front (escaped_bytes text ++ rest) ≡ true
begins-escaped front text rest plain h =
    front-escaped front text rest plain (and_parts (nat_lt (length front) (length text)) (str_eq_ignore_ascii_case (take (length front) text) front) h).1

-- a text with a host begins with a scheme
schemed : (text : List ℕ) → is_some (host_of text) ≡ true → (begins_with (codes "http://") text || begins_with (codes "https://") text) ≡ true
unfolding host_of
schemed text h = go (has_byte 92 text) (begins_with (codes "https://") text) (begins_with (codes "http://") text) h
  where
    go : (slash secure plain : Bool)
        → is_some (if slash then None else host_behind (if secure then Some (drop 8 text) else if plain then Some (drop 7 text) else None)) ≡ true
        → (plain || secure) ≡ true
    go true secure plain h = cc
    go false true plain h = or_right plain true refl
    go false false true h = refl
    go false false false h = cc

visible_small : (b : ℕ) → is_visible b ≡ true → b < 127
visible_small b h = grind (arith, nat_tests)

absolute-escaped : (text rest : List ℕ) → is_link text ≡ true → is_absolute (escaped text ++ rest) ≡ true
absolute-escaped text rest h =
    let parts = and_parts (nat_le (length text) url_limit) (list_all is_visible text && is_some (host_of text)) h in
    let more = and_parts (list_all is_visible text) (is_some (host_of text)) parts.1 in
    let whole = escaped_bytes text ++ rest in
    ap (λ (t : List ℕ). is_absolute (escaped_bytes t ++ rest)) (as_it_is is_visible visible_small text more.0)
    ∙ elim (or_cases (begins_with (codes "http://") text) (begins_with (codes "https://") text) (schemed text more.1)) [
      | inl e ↦ or_left (has_front (codes "http://") whole) (has_front (codes "https://") whole) (begins-escaped (codes "http://") text rest refl e)
      | inr e ↦ or_right (has_front (codes "http://") whole) (has_front (codes "https://") whole) (begins-escaped (codes "https://") text rest refl e)
    ]

pub safe-escaped : (place : Place) (text rest : List ℕ) → is_link text ≡ true → is_safe place (escaped text ++ rest) ≡ true
safe-escaped OwnPage text rest h = or_right (is_local (escaped text ++ rest)) (is_absolute (escaped text ++ rest)) (absolute-escaped text rest h)
safe-escaped OtherPage text rest h = absolute-escaped text rest h
