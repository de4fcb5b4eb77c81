-- A reader finds the texts of the elements with a name.
use Rattle.std.proofs.Common.{◌≡◌, ℕ, List, [], ◌∷◌, ◌++◌, Some, None, refl, sym, ap, ◌∙◌, append_assoc}
use Rattle.std.proofs.lemmas.List.{append-nil}
use Rattle.feed_xml.specs.Characters.{allowed, bytes_marks, text_marks}
use Rattle.feed_xml.specs.Elements.{leaf}
use Rattle.feed_xml.specs.Marks.{Mark, closed, element}
use Rattle.feed_xml.specs.Reading.{begun_text, leaf_texts_in}

-- marks have no element with the name, wherever they are
abbrev pub Skips : List ℕ → List Mark → Type 0
Skips name marks = (rest : List Mark) → leaf_texts_in name (marks ++ rest) None ≡ leaf_texts_in name rest None

pub skips_append : (name : List ℕ) (xs ys : List Mark) → Skips name xs → Skips name ys → Skips name (xs ++ ys)
skips_append name xs ys one two rest = ap (λ t. leaf_texts_in name t None) (append_assoc xs ys rest) ∙ one (ys ++ rest) ∙ two rest

pub skips_bytes : (name bytes : List ℕ) → Skips name (bytes_marks bytes)
skips_bytes name [] rest = refl
skips_bytes name (b ∷ bytes) rest = skips_bytes name bytes rest

-- an element has another name
abbrev pub IsOther : List ℕ → List ℕ → Type 0
IsOther name tag = begun_text name tag ≡ None

pub skips_element : (name tag end : List ℕ) (content : List Mark) → IsOther name tag → Skips name content → Skips name (element tag end content)
skips_element name tag end content other skips rest =
    ap (leaf_texts_in name ((content ++ closed end ∷ []) ++ rest)) other
    ∙ ap (λ t. leaf_texts_in name t None) (append_assoc content (closed end ∷ []) rest) ∙ skips (closed end ∷ rest)

pub skips_leaf : (name other text : List ℕ) → IsOther name other → Skips name (leaf other text)
skips_leaf name other text is = skips_element name other other (text_marks text) is (skips_bytes name (allowed text))

-- the text of an element is collected
pub collected : (name end done bytes : List ℕ) (rest : List Mark)
    → leaf_texts_in name ((bytes_marks bytes ++ closed end ∷ []) ++ rest) (Some done) ≡ (done ++ bytes) ∷ leaf_texts_in name rest None
collected name end done [] rest = ap (λ t. t ∷ leaf_texts_in name rest None) (sym (append-nil done))
collected name end done (b ∷ bytes) rest =
    collected name end (done ++ b ∷ []) bytes rest ∙ ap (λ t. t ∷ leaf_texts_in name rest None) (append_assoc done (b ∷ []) bytes)

pub found_leaf : (name text : List ℕ) (rest : List Mark) → begun_text name name ≡ Some [] → leaf_texts_in name (leaf name text ++ rest) None ≡ allowed text ∷ leaf_texts_in name rest None
found_leaf name text rest is =
    ap (leaf_texts_in name ((text_marks text ++ closed name ∷ []) ++ rest)) is ∙ collected name name [] (allowed text) rest
