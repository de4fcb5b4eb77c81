-- Marks whose tags are proper and balanced.
use Rattle.std.proofs.Common.{◌≡◌, ℕ, List, [], ◌∷◌, ◌++◌, Bool, true, Some, refl, sym, ap, ◌∙◌, append_assoc}
use Rattle.std.specs.Prelude.{◌&&◌}
use Rattle.std.specs.Fmt.{decimal}
use Rattle.std.specs.List.{list_all}
use Rattle.std.specs.Str.{bytes_eq}
use Rattle.std.proofs.lemmas.List.{append-nil}
use Rattle.feed_xml.specs.Characters.{allowed, bytes_marks, text_marks}
use Rattle.feed_xml.specs.Elements.{leaf, number_leaf}
use Rattle.feed_xml.specs.Marks.{Mark, opened, closed, byte, element, xml_text}
use Rattle.feed_xml.specs.Reading.{is_balanced, is_balanced_in, is_proper, tag_name, xml_marks}
use Rattle.feed_xml.proofs.MarksRead.{Proper, marks_read}
use Rattle.feed_xml.proofs.Written.{both}

-- the tags of marks are proper, and balanced wherever they are
pub record Good (marks : List Mark) : Type 0 where
  pub proper : Proper marks
  pub balanced : (rest : List Mark) (names : List (List ℕ)) → is_balanced_in (marks ++ rest) names ≡ is_balanced_in rest names

pub good_nothing : Good []
good_nothing = record { proper = refl; balanced = λ rest names. refl }

all_append : (xs ys : List Mark) → Proper xs → Proper ys → Proper (xs ++ ys)
all_append [] ys one two = two
all_append (x ∷ xs) ys one two = let parts = both (is_proper x) (list_all is_proper xs) one in rw (parts.0, all_append xs ys parts.1 two) refl

pub good_append : (xs ys : List Mark) → Good xs → Good ys → Good (xs ++ ys)
good_append xs ys one two = record {
  proper = all_append xs ys one.proper two.proper;
  balanced = λ rest names. ap (λ t. is_balanced_in t names) (append_assoc xs ys rest) ∙ one.balanced (ys ++ rest) names ∙ two.balanced rest names;
}

bytes_proper : (bytes : List ℕ) → Proper (bytes_marks bytes)
bytes_proper [] = refl
bytes_proper (b ∷ bytes) = bytes_proper bytes

bytes_balanced : (bytes : List ℕ) (rest : List Mark) (names : List (List ℕ)) → is_balanced_in (bytes_marks bytes ++ rest) names ≡ is_balanced_in rest names
bytes_balanced [] rest names = refl
bytes_balanced (b ∷ bytes) rest names = bytes_balanced bytes rest names

pub good_bytes : (bytes : List ℕ) → Good (bytes_marks bytes)
good_bytes bytes = record { proper = bytes_proper bytes; balanced = bytes_balanced bytes }

-- a start tag and an end tag fit each other
abbrev pub are_tags : List ℕ → List ℕ → Bool
are_tags tag name = is_proper (opened tag) && (is_proper (closed name) && bytes_eq (tag_name tag) name)

pub good_element : (tag name : List ℕ) (content : List Mark) → are_tags tag name ≡ true → Good content → Good (element tag name content)
good_element tag name content tags good =
    let parts = both (is_proper (opened tag)) (is_proper (closed name) && bytes_eq (tag_name tag) name) tags in
    let ends = both (is_proper (closed name)) (bytes_eq (tag_name tag) name) parts.1 in
    let end : Proper (closed name ∷ []) = rw ends.0 refl in
    record {
      proper = rw (parts.0, all_append content (closed name ∷ []) good.proper end) refl;
      balanced = λ rest names. ap (λ t. is_balanced_in t (tag_name tag ∷ names)) (append_assoc content (closed name ∷ []) rest)
          ∙ good.balanced (closed name ∷ rest) (tag_name tag ∷ names) ∙ rw ends.1 refl;
    }

pub good_leaf : (name text : List ℕ) → are_tags name name ≡ true → Good (leaf name text)
good_leaf name text tags = good_element name name (text_marks text) tags (good_bytes (allowed text))

pub good_number : (name : List ℕ) (n : ℕ) → are_tags name name ≡ true → Good (number_leaf name n)
good_number name n tags = good_element name name (bytes_marks (decimal n)) tags (good_bytes (decimal n))

pub good_line : (tag name : List ℕ) (content : List Mark) → are_tags tag name ≡ true → Good content → Good (element tag name content ++ byte 10 ∷ [])
good_line tag name content tags good =
    good_append (element tag name content) (byte 10 ∷ []) (good_element tag name content tags good) (good_bytes (10 ∷ []))

-- a reader gets such marks back from their text
pub good_read : (marks : List Mark) → Good marks → xml_marks (xml_text marks) ≡ Some marks
good_read marks good = marks_read marks good.proper

-- and their tags are balanced
pub good_balanced : (marks : List Mark) → Good marks → is_balanced marks ≡ true
good_balanced marks good = ap (λ t. is_balanced_in t []) (sym (append-nil marks)) ∙ good.balanced [] []
