-- How a reader of XML decodes tags and character data (XML 1.0, sections 2.4, 3.1 and 4.6).
use Rattle.std.specs.Prelude.{ℕ, ◌==◌, ◌||◌, ◌&&◌, not, Bool, true, false, if◌then◌else◌, List, [], ◌∷◌, ◌++◌, codes, Option, Some, None, option_map}
use Rattle.std.specs.List.{list_all, take_while}
use Rattle.std.specs.Option.{option_and_then}
use Rattle.std.specs.Str.{bytes_eq}
use Rattle.feed_xml.specs.Marks.{Mark, opened, closed, byte}

-- the character of a reference, by the text between `&` and `;`
abbrev pub referred : List ℕ → Option ℕ
referred name =
    if bytes_eq name (codes "lt") then Some 60
    else (if bytes_eq name (codes "gt") then Some 62
    else (if bytes_eq name (codes "amp") then Some 38
    else (if bytes_eq name (codes "quot") then Some 34
    else (if bytes_eq name (codes "apos") then Some 39
    else (if bytes_eq name (codes "#13") then Some 13
    else None)))))

-- what is read with one mark more in front
abbrev pub with_mark : Mark → Option (List Mark) → Option (List Mark)
with_mark mark read = option_map (λ marks. mark ∷ marks) read

-- how far a reader is: between tags and characters, after `<`, in a start tag or an end tag with the text so far, or in
-- a reference with the name so far
pub data Where : Type 0 where
  between : Where
  angle : Where
  starting : List ℕ → Where
  ending : List ℕ → Where
  reference : List ℕ → Where

-- `<` and `>`
abbrev pub is_angle : ℕ → Bool
is_angle b = (b == 60) || (b == 62)

-- reads the rest of a text from such a place on, if each `<` begins a tag, each `>` ends one, and each `&` begins one of
-- the six references
abbrev pub read_from : Where → List ℕ → Option (List Mark)
read_from between [] = Some []
read_from angle [] = None
read_from (starting tag) [] = None
read_from (ending name) [] = None
read_from (reference name) [] = None
read_from between (b ∷ text) =
    if b == 60 then read_from angle text
    else (if b == 38 then read_from (reference []) text
    else (if b == 62 then None
    else with_mark (byte b) (read_from between text)))
read_from angle (b ∷ text) = if b == 47 then read_from (ending []) text else (if is_angle b then None else read_from (starting (b ∷ [])) text)
read_from (starting tag) (b ∷ text) =
    if b == 62 then with_mark (opened tag) (read_from between text)
    else (if b == 60 then None else read_from (starting (tag ++ b ∷ [])) text)
read_from (ending name) (b ∷ text) =
    if b == 62 then with_mark (closed name) (read_from between text)
    else (if b == 60 then None else read_from (ending (name ++ b ∷ [])) text)
read_from (reference name) (b ∷ text) =
    if b == 59 then option_and_then (λ c. with_mark (byte c) (read_from between text)) (referred name)
    else read_from (reference (name ++ b ∷ [])) text

-- reads a text
abbrev pub xml_marks : List ℕ → Option (List Mark)
xml_marks text = read_from between text

-- neither `<` nor `>`
abbrev pub is_unangled : ℕ → Bool
is_unangled b = not (b == 60) && not (b == 62)

-- a tag has no `<` or `>`, and a start tag begins with another byte than `/`
abbrev pub is_proper : Mark → Bool
is_proper (opened []) = false
is_proper (opened (b ∷ tag)) = not (b == 47) && (is_unangled b && list_all is_unangled tag)
is_proper (closed name) = list_all is_unangled name
is_proper (byte b) = true

-- the name of a start tag, before its attributes
abbrev pub tag_name : List ℕ → List ℕ
tag_name tag = take_while (λ b. not (b == 32)) tag

-- the tags are balanced, where elements with these names are open, the innermost first: each end tag closes the
-- innermost, and none is open at the end (XML 1.0, section 3)
abbrev pub is_balanced_in : List Mark → List (List ℕ) → Bool
is_balanced_in [] [] = true
is_balanced_in [] (name ∷ names) = false
is_balanced_in (opened tag ∷ marks) names = is_balanced_in marks (tag_name tag ∷ names)
is_balanced_in (closed name ∷ marks) [] = false
is_balanced_in (closed name ∷ marks) (top ∷ names) = bytes_eq top name && is_balanced_in marks names
is_balanced_in (byte b ∷ marks) names = is_balanced_in marks names

-- the tags are balanced
abbrev pub is_balanced : List Mark → Bool
is_balanced marks = is_balanced_in marks []

-- the text in an element that a start tag opens, if it is an element with this name
abbrev pub begun_text : List ℕ → List ℕ → Option (List ℕ)
begun_text name tag = if bytes_eq tag name then Some [] else None

-- the texts of the elements with a name that have no other in them, in their order; in such an element, with the text so
-- far
abbrev pub leaf_texts_in : List ℕ → List Mark → Option (List ℕ) → List (List ℕ)
leaf_texts_in name [] text = []
leaf_texts_in name (opened tag ∷ marks) text = leaf_texts_in name marks (begun_text name tag)
leaf_texts_in name (byte b ∷ marks) None = leaf_texts_in name marks None
leaf_texts_in name (byte b ∷ marks) (Some text) = leaf_texts_in name marks (Some (text ++ b ∷ []))
leaf_texts_in name (closed end ∷ marks) None = leaf_texts_in name marks None
leaf_texts_in name (closed end ∷ marks) (Some text) = text ∷ leaf_texts_in name marks None

-- the texts of the elements with a name
abbrev pub leaf_texts : List ℕ → List Mark → List (List ℕ)
leaf_texts name marks = leaf_texts_in name marks None
