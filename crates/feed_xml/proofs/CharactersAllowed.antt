-- A text has the characters of XML alone, and one that has them is not changed.
use Rattle.std.proofs.Common.{◌≡◌, ℕ, List, [], ◌∷◌, ◌++◌, true, false, refl, sym, ap, ◌∙◌, inl, inr, arith}
use Rattle.std.specs.Prelude.{◌==◌, All}
use Rattle.std.proofs.lemmas.Bool.{cases_Bool}
use Rattle.std.proofs.lemmas.Bool.Decides.{nat_tests}
use Rattle.std.proofs.lemmas.List.Elements.{All-from_recursion, All-append}
use Rattle.feed_xml.specs.Characters.{allowed, allowed_byte, allowed_from, is_control, is_last, place_after}
use Rattle.feed_xml.specs.declared.characters.Place.{Place}
use Rattle.feed_xml.specs.declared.characters.Place.TheVariants.{Outside, First, Second}

abbrev Uncontrolled : ℕ → Type 0
Uncontrolled b = is_control b ≡ false

byte_allowed : (place : Place) (b : ℕ) → All Uncontrolled (allowed_byte place b)
byte_allowed place b = elim (cases_Bool (is_control b)) [
  | inl control ↦ rw control (All-from_recursion Uncontrolled (239 ∷ 191 ∷ 189 ∷ []) (refl, (refl, (refl, tt))))
  | inr plain ↦ elim (cases_Bool (is_last place b)) [
    | inl last ↦ rw (plain, last) (All-from_recursion Uncontrolled (189 ∷ []) (refl, tt))
    | inr other ↦ rw (plain, other) (All-from_recursion Uncontrolled (b ∷ []) (plain, tt))
  ]
]

no_controls_from : (place : Place) (text : List ℕ) → All Uncontrolled (allowed_from place text)
no_controls_from place [] = All-from_recursion Uncontrolled [] tt
no_controls_from place (b ∷ text) =
    All-append Uncontrolled (allowed_byte place b) (allowed_from (place_after place b) text) (byte_allowed place b) (no_controls_from (place_after place b) text)

pub no_controls : (text : List ℕ) → All (λ b. is_control b ≡ false) (allowed text)
no_controls text = no_controls_from Outside text

control_begins : (b : ℕ) → is_control b ≡ true → (b == 239) ≡ false
control_begins b control = grind (arith, nat_tests)

control_follows : (b : ℕ) → is_control b ≡ true → (b == 191) ≡ false
control_follows b control = grind (arith, nat_tests)

control_place : (place : Place) (b : ℕ) → is_control b ≡ true → place_after place b ≡ Outside
control_place Outside b control = rw (control_begins b control) refl
control_place First b control = rw (control_follows b control, control_begins b control) refl
control_place Second b control = rw (control_begins b control) refl

replaced : (place : Place) (rest : List ℕ) → allowed_from place (239 ∷ 191 ∷ 189 ∷ rest) ≡ 239 ∷ 191 ∷ 189 ∷ allowed_from Outside rest
replaced Outside rest = refl
replaced First rest = refl
replaced Second rest = refl

last_begins : (b : ℕ) → is_last Second b ≡ true → (b == 239) ≡ false
last_begins b last = grind (arith, nat_tests)

last_replaced : (place : Place) (b : ℕ) (rest : List ℕ) → is_last place b ≡ true → allowed_from place (189 ∷ rest) ≡ 189 ∷ allowed_from (place_after place b) rest
last_replaced Outside b rest last = absurd (cc)
last_replaced First b rest last = absurd (cc)
last_replaced Second b rest last = rw (last_begins b last) refl

-- the bytes that one byte makes are not changed
byte_again : (place : Place) (b : ℕ) (rest : List ℕ) → allowed_from place (allowed_byte place b ++ rest) ≡ allowed_byte place b ++ allowed_from (place_after place b) rest
byte_again place b rest = elim (cases_Bool (is_control b)) [
  | inl control ↦ rw control (replaced place rest ∙ ap (λ p. 239 ∷ 191 ∷ 189 ∷ allowed_from p rest) (sym (control_place place b control)))
  | inr plain ↦ elim (cases_Bool (is_last place b)) [
    | inl last ↦ rw (plain, last) (last_replaced place b rest last)
    | inr other ↦ rw (plain, other) (rw (plain, other) refl)
  ]
]

again_from : (place : Place) (text : List ℕ) → allowed_from place (allowed_from place text) ≡ allowed_from place text
again_from place [] = refl
again_from place (b ∷ text) =
    byte_again place b (allowed_from (place_after place b) text) ∙ ap (λ t. allowed_byte place b ++ t) (again_from (place_after place b) text)

pub allowed_again : (text : List ℕ) → allowed (allowed text) ≡ allowed text
allowed_again text = again_from Outside text
