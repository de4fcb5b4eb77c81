-- The texts of marks, one after another.
use Rattle.std.proofs.Common.{◌≡◌, ◌<◌, ◌^◌, ℕ, List, [], ◌∷◌, ◌++◌, Bool, true, false, refl, sym, ap, ◌∙◌, append_assoc, arith, rules}
use Rattle.std.specs.Prelude.{◌&&◌}
use Rattle.std.specs.Char.{is_ascii_digit}
use Rattle.std.specs.Fmt.{decimal}
use Rattle.std.specs.List.{flat_map, list_all}
use Rattle.std.specs.Str.Parse.{digits_value}
use Rattle.std.proofs.lemmas.Bool.Decides.{nat_tests}
use Rattle.std.proofs.lemmas.Fmt.{decimal_is_IsNumeral}
use Rattle.std.proofs.lemmas.Grind.{flat_map-append}
use Rattle.std.proofs.lemmas.List.{append-nil}
use Rattle.std.proofs.lemmas.Str.Parse.{IsNumeralModel, numerals_by_value}
use Rattle.feed_xml.specs.Characters.{bytes_marks}
use Rattle.feed_xml.specs.Elements.{number_leaf}
use Rattle.feed_xml.specs.Marks.{Mark, opened, closed, element, escape_byte, mark_text, xml_text}

-- bytes as character data are escaped byte by byte
pub bytes_text : (bytes : List ℕ) → xml_text (bytes_marks bytes) ≡ flat_map escape_byte bytes
bytes_text [] = refl
bytes_text (b ∷ bytes) = ap (λ t. escape_byte b ++ t) (bytes_text bytes)

-- digits are not escaped
numerals : IsNumeralModel (λ ds. list_all is_ascii_digit ds ≡ true) (digits_value 10)
numerals = numerals_by_value (λ ds. list_all is_ascii_digit ds ≡ true) (search rules)

pub both : (s t : Bool) → (s && t) ≡ true → (s ≡ true) × (t ≡ true)
both true t holds = (refl, holds)
both false t holds = absurd (cc)

digit_plain : (b : ℕ) → is_ascii_digit b ≡ true → escape_byte b ≡ b ∷ []
digit_plain b digit = grind (arith, nat_tests)

digits_plain : (ds : List ℕ) → list_all is_ascii_digit ds ≡ true → flat_map escape_byte ds ≡ ds
digits_plain [] all = refl
digits_plain (d ∷ ds) all =
    let parts = both (is_ascii_digit d) (list_all is_ascii_digit ds) all in
    rw (digit_plain d parts.0, digits_plain ds parts.1) refl

pub decimal_text : (n : ℕ) → n < 2 ^ 64 → xml_text (bytes_marks (decimal n)) ≡ decimal n
decimal_text n small = bytes_text (decimal n) ∙ digits_plain (decimal n) (numerals.from (decimal n) (decimal_is_IsNumeral n small).0.1)

-- an element is its start tag, its content and its end tag
pub element_text : (tag name : List ℕ) (content : List Mark)
    → xml_text (element tag name content) ≡ mark_text (opened tag) ++ (xml_text content ++ mark_text (closed name))
element_text tag name content =
    ap (λ t. mark_text (opened tag) ++ t)
    (flat_map-append mark_text content (closed name ∷ []) ∙ ap (λ t. xml_text content ++ t) (append-nil (mark_text (closed name))))

pub element_written : (old one two new tag name : List ℕ) (content : List Mark) → one ≡ old ++ mark_text (opened tag) → two ≡ one ++ xml_text content
    → new ≡ two ++ mark_text (closed name) → new ≡ old ++ xml_text (element tag name content)
element_written old one two new tag name content first second third =
    third ∙ ap (λ t. t ++ mark_text (closed name)) (second ∙ ap (λ t. t ++ xml_text content) first)
    ∙ append_assoc (old ++ mark_text (opened tag)) (xml_text content) (mark_text (closed name))
    ∙ append_assoc old (mark_text (opened tag)) (xml_text content ++ mark_text (closed name))
    ∙ ap (λ t. old ++ t) (sym (element_text tag name content))

pub number_written : (old one two new name : List ℕ) (n : ℕ) → n < 2 ^ 64 → one ≡ old ++ mark_text (opened name) → two ≡ one ++ decimal n
    → new ≡ two ++ mark_text (closed name) → new ≡ old ++ xml_text (number_leaf name n)
number_written old one two new name n small first second third =
    element_written old one two new name name (bytes_marks (decimal n)) first (second ∙ ap (λ t. one ++ t) (sym (decimal_text n small))) third

-- the concatenation of parts
abbrev pub joined : List (List Mark) → List Mark
joined parts = flat_map (λ part. part) parts

pub joined_text : (parts : List (List Mark)) → flat_map xml_text parts ≡ xml_text (joined parts)
joined_text [] = refl
joined_text (part ∷ parts) = ap (λ t. xml_text part ++ t) (joined_text parts) ∙ sym (flat_map-append mark_text part (joined parts))
