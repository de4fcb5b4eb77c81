-- A text without its case, by whether it is ASCII and UTF-8.
use Rattle.std.proofs.Common.{◌≡◌, ℕ, Bool, true, false, List, refl, sym, ap, ◌∙◌, ◌||◌, not, map, Option, length}
use Rattle.std.specs.Prelude.{if◌then◌else◌, MatchResult, Result, Ok, Err, is_ok, is_some}
use Rattle.std.specs.Char.{is_ascii, to_ascii_lowercase}
use Rattle.std.specs.List.{list_all}
use Rattle.std.specs.Str.{IsUtf8, chars, encode_utf8_all, is_utf8}
use Rattle.std.proofs.lemmas.Str.{IsUtf8-from_is_utf8, is_utf8-from_IsUtf8}
use Rattle.caseless.specs.Caseless.{default_case_fold}
use Rattle.memchr.specs.Find.{FindsNeedle}
use Rattle.memchr.proofs.lemmas.ValueLemmas.{FindsNeedle-value}
use Rattle.node_titles.specs.Titles.{folded, has_part}

abbrev folded_if : Bool → Bool → List ℕ → List ℕ
folded_if ascii utf8 text =
    if ascii || not utf8 then map to_ascii_lowercase text else encode_utf8_all (default_case_fold (chars text))

pub folded_ascii : (text : List ℕ) → list_all is_ascii text ≡ true → map to_ascii_lowercase text ≡ folded text
unfolding folded
folded_ascii text ascii = sym (ap (λ b. folded_if b (is_utf8 text) text) ascii)

pub folded_text : (text other : List ℕ) → list_all is_ascii text ≡ false → other ≡ text → IsUtf8 text
    → encode_utf8_all (default_case_fold (chars other)) ≡ folded text
unfolding folded
folded_text text other ascii same utf8 =
    ap (λ t. encode_utf8_all (default_case_fold (chars t))) same
    ∙ ap (λ b. folded_if false b text) (sym (is_utf8-from_IsUtf8 text utf8))
    ∙ ap (λ b. folded_if b (is_utf8 text) text) (sym ascii)

no_text : (text : List ℕ) (b : Bool) → is_utf8 text ≡ b → (IsUtf8 text → ⊥) → is_utf8 text ≡ false
no_text text true is not = absurd (not (IsUtf8-from_is_utf8 text is))
no_text text false is not = is

pub folded_bytes : (text : List ℕ) → list_all is_ascii text ≡ false → (IsUtf8 text → ⊥) → map to_ascii_lowercase text ≡ folded text
unfolding folded
folded_bytes text ascii not =
    ap (λ b. folded_if false b text) (sym (no_text text (is_utf8 text) refl not))
    ∙ ap (λ b. folded_if b (is_utf8 text) text) (sym ascii)

-- whether a text is UTF-8, by what its reader returns
pub utf8_read : {A B : Type 0} (P : A → Type 0) (Q : B → Type 0) (text : List ℕ) (read : Result A B)
    → MatchResult read (λ a. P a × IsUtf8 text) (λ e. (IsUtf8 text → ⊥) × Q e) → is_ok read ≡ is_utf8 text
utf8_read P Q text (Ok a) is = sym (is_utf8-from_IsUtf8 text is.1)
utf8_read P Q text (Err e) is = sym (no_text text (is_utf8 text) refl is.0)

-- a part that is found
pub part_found : (part text : List ℕ) (place : Option ℕ) → FindsNeedle text part 0 place → is_some place ≡ has_part part text
unfolding has_part
part_found part text place finds = ap (λ p. is_some p) (FindsNeedle-value text part place finds)
