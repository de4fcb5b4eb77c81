-- The characters of a value, read one by one.
use Rattle.std.proofs.Common.{◌≡◌, ℕ, Bool, true, false, List, [], ◌∷◌, ◌++◌, Some, None, if◌then◌else◌, refl, sym, ap, ◌∙◌}
use Rattle.std.specs.List.{cons_option, filter_map, list_all}
use Rattle.std.specs.Str.{IsUtf8, chars, is_utf8}
use Rattle.std.proofs.lemmas.List.{append-nil}
use Rattle.std.proofs.lemmas.List.Elements.{filter_map-append}
use Rattle.std.proofs.lemmas.Str.{IsUtf8-from_is_utf8, is_utf8-from_IsUtf8}
use Rattle.feed_openurl.specs.Plain.{is_ascii_byte, plain, plain_byte, plain_windows}

-- a character that has a byte, and one that has none
pub byte_pushed : (bytes done : List ℕ) (c byte : ℕ) → bytes ≡ filter_map plain_byte done → plain_byte c ≡ Some byte
    → bytes ++ byte ∷ [] ≡ filter_map plain_byte (done ++ c ∷ [])
byte_pushed bytes done c byte is read =
    ap (λ l. l ++ byte ∷ []) is ∙ ap (λ o. filter_map plain_byte done ++ cons_option o []) (sym read) ∙ sym (filter_map-append plain_byte done (c ∷ []))

pub byte_passed : (bytes done : List ℕ) (c : ℕ) → bytes ≡ filter_map plain_byte done → plain_byte c ≡ None
    → bytes ≡ filter_map plain_byte (done ++ c ∷ [])
byte_passed bytes done c is read =
    is ∙ sym (append-nil (filter_map plain_byte done)) ∙ ap (λ o. filter_map plain_byte done ++ cons_option o []) (sym read) ∙ sym (filter_map-append plain_byte done (c ∷ []))

abbrev plain_if : Bool → Bool → List ℕ → List ℕ
plain_if is_ascii is_text value =
    if is_ascii then value else if is_text then filter_map plain_byte (chars value) else filter_map plain_windows value

pub plain_of_text : (value text : List ℕ) → list_all is_ascii_byte value ≡ false → text ≡ value → IsUtf8 value
    → filter_map plain_byte (chars text) ≡ plain value
plain_of_text value text other same utf8 =
    ap (λ t. filter_map plain_byte (chars t)) same ∙ ap (λ b. plain_if false b value) (sym (is_utf8-from_IsUtf8 value utf8)) ∙ ap (λ b. plain_if b (is_utf8 value) value) (sym other)

-- bytes that are not a text are not tested as one
pub no_text : (value : List ℕ) (b : Bool) → is_utf8 value ≡ b → (IsUtf8 value → ⊥) → is_utf8 value ≡ false
no_text value true e not = absurd (not (IsUtf8-from_is_utf8 value e))
no_text value false e not = e

pub plain_of_bytes : (value : List ℕ) → list_all is_ascii_byte value ≡ false → (IsUtf8 value → ⊥) → filter_map plain_windows value ≡ plain value
plain_of_bytes value other not =
    ap (λ b. plain_if false b value) (sym (no_text value (is_utf8 value) refl not)) ∙ ap (λ b. plain_if b (is_utf8 value) value) (sym other)
