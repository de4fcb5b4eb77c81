-- One byte more of a text is written.
use Rattle.std.proofs.Common.{◌≡◌, ℕ, List, [], ◌∷◌, ◌++◌, sym, ap, ◌∙◌, append_assoc}
use Rattle.std.specs.List.{flat_map}
use Rattle.std.proofs.lemmas.Grind.{flat_map-append}
use Rattle.std.proofs.lemmas.List.{append-nil}
use Rattle.feed_xml.specs.Characters.{allowed, allowed_byte, allowed_from, place_after, text_marks}
use Rattle.feed_xml.specs.Marks.{escape_byte, xml_text}
use Rattle.feed_xml.specs.declared.characters.Place.{Place}
use Rattle.feed_xml.proofs.Written.{bytes_text}

-- what is written with what is left
abbrev pub with_rest : List ℕ → Place → List ℕ → List ℕ
with_rest out place text = out ++ flat_map escape_byte (allowed_from place text)

pub byte_written : (old out new : List ℕ) (place next : Place) (b : ℕ) (text rest : List ℕ) → text ≡ b ∷ rest
    → new ≡ out ++ flat_map escape_byte (allowed_byte place b) → next ≡ place_after place b → with_rest out place text ≡ old → with_rest new next rest ≡ old
byte_written old out new place next b text rest is written is_next before =
    ap (λ t. with_rest t next rest) written
    ∙ ap (λ p. with_rest (out ++ flat_map escape_byte (allowed_byte place b)) p rest) is_next
    ∙ append_assoc out (flat_map escape_byte (allowed_byte place b)) (flat_map escape_byte (allowed_from (place_after place b) rest))
    ∙ ap (λ t. out ++ t) (sym (flat_map-append escape_byte (allowed_byte place b) (allowed_from (place_after place b) rest)))
    ∙ ap (λ t. with_rest out place t) (sym is)
    ∙ before

pub all_written : (old out : List ℕ) (place : Place) (text rest : List ℕ) → rest ≡ [] → with_rest out place rest ≡ old ++ flat_map escape_byte (allowed text)
    → out ≡ old ++ xml_text (text_marks text)
all_written old out place text rest none written =
    sym (append-nil out) ∙ ap (λ t. with_rest out place t) (sym none) ∙ written ∙ ap (λ t. old ++ t) (sym (bytes_text (allowed text)))
