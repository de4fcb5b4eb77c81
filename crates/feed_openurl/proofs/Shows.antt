-- A value as a citation shows it, by whether it is UTF-8.
use Rattle.std.proofs.Common.{◌≡◌, ℕ, Bool, List, [], refl, sym, ap, ◌∙◌, if◌then◌else◌}
use Rattle.std.specs.Prelude.{fold}
use Rattle.std.specs.Str.{IsUtf8, chars, is_utf8}
use Rattle.std.proofs.lemmas.Str.{is_utf8-from_IsUtf8}
use Rattle.feed_openurl.specs.Shown.{shown, with_byte, with_char}
use Rattle.feed_openurl.proofs.Plains.{no_text}

abbrev shown_if : Bool → List ℕ → List ℕ
shown_if is_text value = if is_text then fold with_char [] (chars value) else fold with_byte [] value

pub shown_of_text : (value text : List ℕ) → text ≡ value → IsUtf8 value → fold with_char [] (chars text) ≡ shown value
unfolding shown
shown_of_text value text same utf8 =
    ap (λ t. fold with_char [] (chars t)) same ∙ ap (λ b. shown_if b value) (sym (is_utf8-from_IsUtf8 value utf8))

pub shown_of_bytes : (value : List ℕ) → (IsUtf8 value → ⊥) → fold with_byte [] value ≡ shown value
unfolding shown
shown_of_bytes value not = ap (λ b. shown_if b value) (sym (no_text value (is_utf8 value) refl not))
