-- An escaped text has no markup, and decodes to the text as it is shown.
use Rattle.std.proofs.Common.{◌≡◌, ℕ, Bool, List, [], ◌∷◌, ◌++◌, codes, true, false, Some, None, refl, ap, ◌∙◌, inl, inr}
use Rattle.std.proofs.lemmas.Bool.{cases_Bool, eqb-true}
use Rattle.std.specs.Prelude.{◌==◌, ◌||◌, if◌then◌else◌, map, All}
use Rattle.std.proofs.lemmas.List.Elements.{All-from_recursion, All-append}
use Rattle.node_response.specs.Utf8.{in_utf8}
use Rattle.node_response.specs.Escapes.{escape_byte, escaped, escaped_bytes, is_control, is_markup, shown, shown_byte, with_byte, undone, unescaped}

-- a byte that is neither markup nor `&` stands for itself
plain_byte : (b : ℕ) (rest : List ℕ) → (b == 38) ≡ false → is_markup b ≡ false → undone None (b ∷ rest) ≡ with_byte b (undone None rest)
plain_byte b rest reference markup = rw (reference, markup) refl

-- one byte is undone
undone_byte : (b : ℕ) (rest : List ℕ) → undone None (escape_byte b ++ rest) ≡ with_byte (shown_byte b) (undone None rest)
undone_byte b rest = elim (cases_Bool (b == 60)) [
  | inl e ↦ rw (eqb-true b 60 e) refl
  | inr e60 ↦ elim (cases_Bool (b == 62)) [
    | inl e ↦ rw (eqb-true b 62 e) refl
    | inr e62 ↦ elim (cases_Bool (b == 34)) [
      | inl e ↦ rw (eqb-true b 34 e) refl
      | inr e34 ↦ elim (cases_Bool (b == 39)) [
        | inl e ↦ rw (eqb-true b 39 e) refl
        | inr e39 ↦ elim (cases_Bool (b == 38)) [
          | inl e ↦ rw (eqb-true b 38 e) refl
          | inr e38 ↦ elim (cases_Bool (is_control b)) [
            | inl c ↦ rw (e60, e62, e34, e39, e38, c) refl
            | inr c ↦ rw (e60, e62, e34, e39, e38, c) (plain_byte b rest e38 (rw (e60, e62, e34, e39) refl))
          ]
        ]
      ]
    ]
  ]
]

bytes_read_back : (text : List ℕ) → unescaped (escaped_bytes text) ≡ Some (map shown_byte text)
bytes_read_back [] = refl
bytes_read_back (b ∷ text) = undone_byte b (escaped_bytes text) ∙ ap (with_byte (shown_byte b)) (bytes_read_back text)

pub reads_back : (text : List ℕ) → unescaped (escaped text) ≡ Some (shown text)
reads_back text = bytes_read_back (in_utf8 text)

abbrev unmarked : ℕ → Type 0
unmarked b = (is_markup b || is_control b) ≡ false

-- a byte that stands for itself has no markup, and neither has the space in its place
shown_unmarked : (b : ℕ) → is_markup b ≡ false → All unmarked (shown_byte b ∷ [])
shown_unmarked b plain = go (is_control b) refl
  where
    go : (c : Bool) → is_control b ≡ c → All unmarked ((if c then 32 else b) ∷ [])
    go true is = All-from_recursion unmarked (32 ∷ []) (refl, tt)
    go false is = All-from_recursion unmarked (b ∷ []) (ap (λ m. m || is_control b) plain ∙ is, tt)

-- one byte has no markup
no_markup_byte : (b : ℕ) → All unmarked (escape_byte b)
no_markup_byte b = elim (cases_Bool (b == 60)) [
  | inl e ↦ rw (eqb-true b 60 e) (All-from_recursion unmarked (codes "&lt;") (refl, (refl, (refl, (refl, tt)))))
  | inr e60 ↦ elim (cases_Bool (b == 62)) [
    | inl e ↦ rw (eqb-true b 62 e) (All-from_recursion unmarked (codes "&gt;") (refl, (refl, (refl, (refl, tt)))))
    | inr e62 ↦ elim (cases_Bool (b == 34)) [
      | inl e ↦ rw (eqb-true b 34 e) (All-from_recursion unmarked (codes "&quot;") (refl, (refl, (refl, (refl, (refl, (refl, tt)))))))
      | inr e34 ↦ elim (cases_Bool (b == 39)) [
        | inl e ↦ rw (eqb-true b 39 e) (All-from_recursion unmarked (codes "&#39;") (refl, (refl, (refl, (refl, (refl, tt))))))
        | inr e39 ↦ elim (cases_Bool (b == 38)) [
          | inl e ↦ rw (eqb-true b 38 e) (All-from_recursion unmarked (codes "&amp;") (refl, (refl, (refl, (refl, (refl, tt))))))
          | inr e38 ↦ rw (e60, e62, e34, e39, e38) (shown_unmarked b (rw (e60, e62, e34, e39) refl))
        ]
      ]
    ]
  ]
]

bytes_unmarked : (text : List ℕ) → All unmarked (escaped_bytes text)
bytes_unmarked [] = All-from_recursion unmarked [] tt
bytes_unmarked (b ∷ text) = All-append unmarked (escape_byte b) (escaped_bytes text) (no_markup_byte b) (bytes_unmarked text)

pub no_markup : (text : List ℕ) → All (λ b. (is_markup b || is_control b) ≡ false) (escaped text)
no_markup text = bytes_unmarked (in_utf8 text)
