-- A reader gets marks back from their text.
use Rattle.std.proofs.Common.{◌≡◌, ℕ, List, [], ◌∷◌, ◌++◌, Bool, true, false, Some, refl, sym, ap, ◌∙◌, inl, inr, append_assoc}
use Rattle.std.specs.Prelude.{◌==◌, ◌&&◌, not}
use Rattle.std.specs.List.{list_all}
use Rattle.std.proofs.lemmas.Bool.{cases_Bool, eqb-true}
use Rattle.std.proofs.lemmas.List.{append-nil}
use Rattle.feed_xml.specs.Marks.{Mark, opened, closed, byte, escape_byte, mark_text, xml_text}
use Rattle.feed_xml.specs.Reading.{is_proper, is_unangled, read_from, with_mark, xml_marks}
use Rattle.feed_xml.specs.Reading as place
use Rattle.feed_xml.proofs.Written.{both}

not_true : (b : Bool) → not b ≡ true → b ≡ false
not_true false holds = refl
not_true true holds = absurd (cc)

-- one byte of character data
byte_read : (b : ℕ) (rest : List ℕ) → read_from place.between (escape_byte b ++ rest) ≡ with_mark (byte b) (read_from place.between rest)
byte_read b rest = elim (cases_Bool (b == 60)) [
  | inl e ↦ rw (eqb-true b 60 e) refl
  | inr e60 ↦ elim (cases_Bool (b == 62)) [
    | inl e ↦ rw (eqb-true b 62 e) refl
    | inr e62 ↦ elim (cases_Bool (b == 38)) [
      | inl e ↦ rw (eqb-true b 38 e) refl
      | inr e38 ↦ elim (cases_Bool (b == 34)) [
        | inl e ↦ rw (eqb-true b 34 e) refl
        | inr e34 ↦ elim (cases_Bool (b == 39)) [
          | inl e ↦ rw (eqb-true b 39 e) refl
          | inr e39 ↦ elim (cases_Bool (b == 13)) [
            | inl e ↦ rw (eqb-true b 13 e) refl
            | inr e13 ↦ rw (e60, e62, e38, e34, e39, e13) (rw (e60, e38, e62) refl)
          ]
        ]
      ]
    ]
  ]
]

abbrev Unangled : List ℕ → Type 0
Unangled bytes = list_all is_unangled bytes ≡ true

first_of : (b : ℕ) (bytes : List ℕ) → Unangled (b ∷ bytes) → ((b == 60) ≡ false) × ((b == 62) ≡ false) × Unangled bytes
first_of b bytes all =
    let parts = both (is_unangled b) (list_all is_unangled bytes) all in
    let tests = both (not (b == 60)) (not (b == 62)) parts.0 in
    (not_true (b == 60) tests.0, not_true (b == 62) tests.1, parts.1)

start_read : (done tag rest : List ℕ) → Unangled tag
    → read_from (place.starting done) ((tag ++ 62 ∷ []) ++ rest) ≡ with_mark (opened (done ++ tag)) (read_from place.between rest)
start_read done [] rest all = ap (λ t. with_mark (opened t) (read_from place.between rest)) (sym (append-nil done))
start_read done (b ∷ tag) rest all =
    let parts = first_of b tag all in
    rw (parts.1, parts.0) (start_read (done ++ b ∷ []) tag rest parts.2
    ∙ ap (λ t. with_mark (opened t) (read_from place.between rest)) (append_assoc done (b ∷ []) tag))

end_read : (done name rest : List ℕ) → Unangled name
    → read_from (place.ending done) ((name ++ 62 ∷ []) ++ rest) ≡ with_mark (closed (done ++ name)) (read_from place.between rest)
end_read done [] rest all = ap (λ t. with_mark (closed t) (read_from place.between rest)) (sym (append-nil done))
end_read done (b ∷ name) rest all =
    let parts = first_of b name all in
    rw (parts.1, parts.0) (end_read (done ++ b ∷ []) name rest parts.2
    ∙ ap (λ t. with_mark (closed t) (read_from place.between rest)) (append_assoc done (b ∷ []) name))

mark_read : (mark : Mark) (rest : List ℕ) → is_proper mark ≡ true → read_from place.between (mark_text mark ++ rest) ≡ with_mark mark (read_from place.between rest)
mark_read (opened []) rest proper = absurd (cc)
mark_read (opened (b ∷ tag)) rest proper =
    let parts = both (not (b == 47)) (is_unangled b && list_all is_unangled tag) proper in
    let angles = first_of b tag parts.1 in
    rw (not_true (b == 47) parts.0, angles.0, angles.1) (start_read (b ∷ []) tag rest angles.2)
mark_read (closed name) rest proper = end_read [] name rest proper
mark_read (byte b) rest proper = byte_read b rest

abbrev pub Proper : List Mark → Type 0
Proper marks = list_all is_proper marks ≡ true

pub marks_read : (marks : List Mark) → Proper marks → xml_marks (xml_text marks) ≡ Some marks
marks_read [] all = refl
marks_read (mark ∷ marks) all =
    let parts = both (is_proper mark) (list_all is_proper marks) all in
    mark_read mark (xml_text marks) parts.0 ∙ ap (with_mark mark) (marks_read marks parts.1)
