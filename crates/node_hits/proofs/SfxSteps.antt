-- Writing a target of a reply of SFX in steps writes the whole.
use Rattle.std.proofs.Common.{◌≡◌, ℕ, List, [], ◌++◌, None, sym, ap, ◌∙◌, append_assoc}
use Rattle.std.specs.Prelude.{Option}
use Rattle.std.proofs.lemmas.Grind.{flat_map-append}
use Rattle.std.proofs.lemmas.List.{append-nil}
use Rattle.feed_kbart.specs.RowValue.{RowValue}
use Rattle.feed_xml.specs.Elements.{leaf, number_leaf}
use Rattle.feed_xml.specs.Marks.{Mark, closed, mark_text, opened, xml_text}
use Rattle.feed_xml.proofs.Written.{element_written}
use Rattle.node_hits.specs.Sfx.{ServiceValue, coverage_marks, names_marks, place_marks, target_marks, target_with}
use Rattle.node_hits.specs.declared.sfx_names.TheConstants.{TARGET, TARGET_NAME, TARGET_PUBLIC_NAME, TARGET_SERVICE_ID, SERVICE_TYPE, TARGET_URL, PARSER, DISPLAYER, IS_RELATED, NO, NOTE}

text_of_two : (a b : List Mark) → xml_text (a ++ b) ≡ xml_text a ++ xml_text b
text_of_two a b = flat_map-append mark_text a b

-- two parts
pub two_written : (old one new : List ℕ) (a b : List Mark) → one ≡ old ++ xml_text a → new ≡ one ++ xml_text b → new ≡ old ++ xml_text (a ++ b)
two_written old one new a b first second =
    second ∙ ap (λ t. t ++ xml_text b) first ∙ append_assoc old (xml_text a) (xml_text b) ∙ ap (λ t. old ++ t) (sym (text_of_two a b))

-- four and five
pub four_written : (old one two three new : List ℕ) (a b c d : List Mark) → one ≡ old ++ xml_text a → two ≡ one ++ xml_text b → three ≡ two ++ xml_text c
    → new ≡ three ++ xml_text d → new ≡ old ++ xml_text (a ++ (b ++ (c ++ d)))
four_written old one two three new a b c d first second third fourth =
    two_written old one new a (b ++ (c ++ d)) first
    (two_written one two new b (c ++ d) second (two_written two three new c d third fourth))

pub five_written : (old one two three four new : List ℕ) (a b c d e : List Mark) → one ≡ old ++ xml_text a → two ≡ one ++ xml_text b
    → three ≡ two ++ xml_text c → four ≡ three ++ xml_text d → new ≡ four ++ xml_text e → new ≡ old ++ xml_text (a ++ (b ++ (c ++ (d ++ e))))
five_written old one two three four new a b c d e first second third fourth fifth =
    two_written old one new a (b ++ (c ++ (d ++ e))) first (four_written one two three four new b c d e second third fourth fifth)

-- the names of a service
pub names_written : (old one two three new : List ℕ) (made service : ServiceValue) (number : ℕ) → made ≡ service → number ≡ made.number
    → one ≡ old ++ xml_text (leaf TARGET_NAME.now made.name) → two ≡ one ++ xml_text (leaf TARGET_PUBLIC_NAME.now made.public_name)
    → three ≡ two ++ xml_text (number_leaf TARGET_SERVICE_ID.now number) → new ≡ three ++ xml_text (leaf SERVICE_TYPE.now made.service_type)
    → new ≡ old ++ xml_text (names_marks service)
unfolding names_marks
names_written old one two three new made service number is same first second third fourth =
    four_written old one two three new (leaf TARGET_NAME.now made.name) (leaf TARGET_PUBLIC_NAME.now made.public_name)
    (number_leaf TARGET_SERVICE_ID.now made.number) (leaf SERVICE_TYPE.now made.service_type) first second
    (third ∙ ap (λ n. two ++ xml_text (number_leaf TARGET_SERVICE_ID.now n)) same) fourth
    ∙ ap (λ (s : ServiceValue). old ++ xml_text (names_marks s)) is

-- its address and its note
pub place_written : (old one two three four new : List ℕ) (made service : ServiceValue) → made ≡ service
    → one ≡ old ++ xml_text (leaf TARGET_URL.now made.url) → two ≡ one ++ xml_text (leaf PARSER.now []) → three ≡ two ++ xml_text (leaf IS_RELATED.now NO.now)
    → four ≡ three ++ xml_text (leaf DISPLAYER.now []) → new ≡ four ++ xml_text (leaf NOTE.now made.note) → new ≡ old ++ xml_text (place_marks service)
unfolding place_marks
place_written old one two three four new made service is first second third fourth fifth =
    five_written old one two three four new (leaf TARGET_URL.now made.url) (leaf PARSER.now []) (leaf IS_RELATED.now NO.now) (leaf DISPLAYER.now []) (leaf NOTE.now made.note)
    first second third fourth fifth
    ∙ ap (λ (s : ServiceValue). old ++ xml_text (place_marks s)) is

-- a target
pub target_written : (old one two three new : List ℕ) (service : ServiceValue) (coverage : Option RowValue) → one ≡ old ++ mark_text (opened TARGET.now)
    → two ≡ one ++ xml_text (names_marks service ++ place_marks service) → three ≡ two ++ xml_text (coverage_marks coverage) → new ≡ three ++ mark_text (closed TARGET.now)
    → new ≡ old ++ xml_text (target_marks (target_with coverage service))
unfolding target_marks
target_written old one two three new service coverage first second third fourth =
    element_written old one three new TARGET.now TARGET.now (names_marks service ++ (place_marks service ++ coverage_marks coverage)) first
    (two_written one two three (names_marks service ++ place_marks service) (coverage_marks coverage) second third
    ∙ ap (λ (t : List Mark). one ++ xml_text t) (append_assoc (names_marks service) (place_marks service) (coverage_marks coverage)))
    fourth

pub plain_written : (old one two new : List ℕ) (service : ServiceValue) → one ≡ old ++ mark_text (opened TARGET.now)
    → two ≡ one ++ xml_text (names_marks service ++ place_marks service) → new ≡ two ++ mark_text (closed TARGET.now)
    → new ≡ old ++ xml_text (target_marks (target_with None service))
plain_written old one two new service first second third = target_written old one two two new service None first second (sym (append-nil two)) third
