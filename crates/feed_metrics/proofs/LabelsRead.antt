-- The value of a label reads back.
use Rattle.std.proofs.Common.{◌≡◌, ℕ, List, [], ◌∷◌, ◌++◌, false, Some, refl, ap, ◌∙◌, inl, inr, append_assoc}
use Rattle.std.specs.Prelude.{◌==◌}
use Rattle.std.proofs.lemmas.Bool.{cases_Bool, eqb-true}
use Rattle.feed_metrics.specs.Labels.{label_byte, label_text, in_front, read_label}

plain_read : (b : ℕ) (rest : List ℕ) → (b == 34) ≡ false → (b == 92) ≡ false → (b == 10) ≡ false → read_label false (b ∷ rest) ≡ in_front b (read_label false rest)
plain_read b rest quote mark line = rw (quote, mark, line) refl

byte_read : (b : ℕ) (rest : List ℕ) → read_label false (label_byte b ++ rest) ≡ in_front b (read_label false rest)
byte_read b rest = elim (cases_Bool (b == 92)) [
  | inl e ↦ rw (eqb-true b 92 e) refl
  | inr e92 ↦ elim (cases_Bool (b == 34)) [
    | inl e ↦ rw (eqb-true b 34 e) refl
    | inr e34 ↦ elim (cases_Bool (b == 10)) [
      | inl e ↦ rw (eqb-true b 10 e) refl
      | inr e10 ↦ rw (e92, e34, e10) (plain_read b rest e34 e92 e10)
    ]
  ]
]

pub label_read : (text rest : List ℕ) → read_label false (label_text text ++ 34 ∷ rest) ≡ Some (text, rest)
label_read [] rest = refl
label_read (b ∷ text) rest =
    ap (read_label false) (append_assoc (label_byte b) (label_text text) (34 ∷ rest))
    ∙ byte_read b (label_text text ++ 34 ∷ rest)
    ∙ ap (in_front b) (label_read text rest)
