-- A text is unescaped from one backslash to the next, and bytes that are written with escapes are read back.
use Rattle.std.proofs.Common.{◌≡◌, ◌<◌, ◌+◌, ◌*◌, ◌/◌, ◌%◌, ℕ, List, [], ◌∷◌, ◌++◌, false, true, Bool, Option, Some, None, refl, sym, ap, ◌∙◌, inl, inr, append_assoc, append-nil, arith}
use Rattle.std.specs.Prelude.{◌==◌, ◌||◌, nat_lt, All}
use Rattle.std.specs.Fmt.{digit_glyph}
use Rattle.std.proofs.lemmas.Bool.{cases_Bool, eqb-true}
use Rattle.std.proofs.lemmas.Bool.Decides.{nat_tests}
use Rattle.std.proofs.lemmas.List.Elements.{All-head, All-tail}
use Rattle.feed_replay.specs.Splits.{IsSplit}
use Rattle.feed_replay.specs.Escapes.{Among, Behind, bytes_from, unescaped, with_bytes, hex_value, hex_escape, escape_byte, escaped}

abbrev is_plain : ℕ → Type 0
is_plain b = (b == 92) ≡ false

-- bytes in front of bytes in front of a text
with_bytes-twice : (front more : List ℕ) (text : Option (List ℕ)) → with_bytes front (with_bytes more text) ≡ with_bytes (front ++ more) text
with_bytes-twice front more None = refl
with_bytes-twice front more (Some bytes) = ap (λ it. Some it) (sym (append_assoc front more bytes))

-- bytes without a backslash denote themselves
plain_front : (plain rest : List ℕ) → All (λ b. (b == 92) ≡ false) plain → unescaped (plain ++ rest) ≡ with_bytes plain (unescaped rest)
plain_front [] rest all = elim (unescaped rest) as (λ it. it ≡ with_bytes [] it) [ None ↦ refl | Some bytes ↦ refl ]
plain_front (b ∷ plain) rest all =
    rw (All-head is_plain b plain all)
    (ap (with_bytes (b ∷ [])) (plain_front plain rest (All-tail is_plain b plain all))
    ∙ with_bytes-twice (b ∷ []) plain (unescaped rest))

-- a text up to its first backslash
split_front : (rest plain escape : List ℕ) → IsSplit 92 rest plain (Some escape) → unescaped rest ≡ with_bytes plain (bytes_from Behind escape)
split_front rest plain escape split = ap unescaped split.joined ∙ plain_front plain (92 ∷ escape) split.first

-- one turn of the loop: the bytes so far, those up to the backslash, and that of the escape
pub one_more : (text done rest plain escape after : List ℕ) (byte : ℕ) → unescaped text ≡ with_bytes done (unescaped rest)
    → IsSplit 92 rest plain (Some escape) → bytes_from Behind escape ≡ with_bytes (byte ∷ []) (bytes_from Among after)
    → unescaped text ≡ with_bytes ((done ++ plain) ++ byte ∷ []) (unescaped after)
one_more text done rest plain escape after byte so_far split read =
    so_far
    ∙ ap (with_bytes done) (split_front rest plain escape split ∙ ap (with_bytes plain) read)
    ∙ with_bytes-twice done plain (with_bytes (byte ∷ []) (unescaped after))
    ∙ with_bytes-twice (done ++ plain) (byte ∷ []) (unescaped after)

-- a text with a backslash that begins no escape denotes nothing
pub none_more : (text done rest plain escape : List ℕ) → unescaped text ≡ with_bytes done (unescaped rest)
    → IsSplit 92 rest plain (Some escape) → bytes_from Behind escape ≡ None → unescaped text ≡ None
none_more text done rest plain escape so_far split read =
    so_far ∙ ap (with_bytes done) (split_front rest plain escape split ∙ ap (with_bytes plain) read)

-- a text without a further backslash
pub all_read : (text done rest plain : List ℕ) → unescaped text ≡ with_bytes done (unescaped rest)
    → IsSplit 92 rest plain None → unescaped text ≡ Some (done ++ plain)
all_read text done rest plain so_far split =
    let whole : unescaped rest ≡ Some plain =
    ap unescaped split.joined ∙ plain_front plain [] split.first ∙ ap (λ it. Some it) (append-nil plain) in
    so_far ∙ ap (with_bytes done) whole

-- a digit is read back
hex_read : (capitals : Bool) (d : ℕ) → d < 16 → hex_value (digit_glyph capitals d) ≡ Some d
hex_read true d small = grind (arith, nat_tests)
hex_read false d small = grind (arith, nat_tests)

-- two digits are read back
hex_byte : (capitals : Bool) (b : ℕ) (rest : List ℕ) → b < 256 → unescaped (hex_escape capitals b ++ rest) ≡ with_bytes (b ∷ []) (unescaped rest)
hex_byte capitals b rest small =
    let whole : b / 16 * 16 + b % 16 ≡ b = omega arith in
    rw (hex_read capitals (b / 16) (omega arith), hex_read capitals (b % 16) (omega arith), whole) refl

plain_byte : (b : ℕ) (rest : List ℕ) → (b == 92) ≡ false → unescaped (b ∷ rest) ≡ with_bytes (b ∷ []) (unescaped rest)
plain_byte b rest plain = rw plain refl

-- one byte is read back
byte_read : (capitals : Bool) (b : ℕ) (rest : List ℕ) → b < 256 → unescaped (escape_byte capitals b ++ rest) ≡ with_bytes (b ∷ []) (unescaped rest)
byte_read capitals b rest small = elim (cases_Bool (b == 9)) [
  | inl e ↦ rw (eqb-true b 9 e) refl
  | inr e9 ↦ elim (cases_Bool (b == 10)) [
    | inl e ↦ rw (eqb-true b 10 e) refl
    | inr e10 ↦ elim (cases_Bool (b == 13)) [
      | inl e ↦ rw (eqb-true b 13 e) refl
      | inr e13 ↦ elim (cases_Bool (b == 92)) [
        | inl e ↦ rw (eqb-true b 92 e) refl
        | inr e92 ↦ elim (cases_Bool (nat_lt b 32 || nat_lt 126 b)) [
          | inl e ↦ rw (e9, e10, e13, e92, e) (hex_byte capitals b rest small)
          | inr e ↦ rw (e9, e10, e13, e92, e) (plain_byte b rest e92)
        ]
      ]
    ]
  ]
]

abbrev is_byte : ℕ → Type 0
is_byte b = b < 256

pub reads_back : (capitals : Bool) (bytes : List ℕ) → All (λ b. b < 256) bytes → unescaped (escaped capitals bytes) ≡ Some bytes
reads_back capitals [] all = refl
reads_back capitals (b ∷ bytes) all =
    byte_read capitals b (escaped capitals bytes) (All-head is_byte b bytes all)
    ∙ ap (with_bytes (b ∷ [])) (reads_back capitals bytes (All-tail is_byte b bytes all))
