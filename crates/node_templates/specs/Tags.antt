-- The tags, the addresses and the style of a page as a browser reads them (WHATWG HTML, section 13.2.5), if each value of an
-- attribute is in double quotes, a style has no `<` but that of its end tag, and there is neither a comment nor a script.
use Rattle.std.specs.Prelude.{◌≡◌, ℕ, ◌==◌, ◌&&◌, ◌||◌, Bool, true, false, not, if◌then◌else◌, List, [], ◌∷◌, ◌++◌, codes}
use Rattle.std.specs.List.{list_any}
use Rattle.std.specs.Char.{is_ascii_alphanumeric, to_ascii_lowercase}
use Rattle.std.specs.Str.{bytes_eq, str_eq_ignore_ascii_case}
use Rattle.node_response.specs.Escapes.{is_control}

-- where a byte is: in a text, in a style, in a tag, or in the value of an attribute. Of a tag it is known what its name is, once
-- that was read, and what was read since the last space; of a value, the name of the tag, and what is before the quote
pub data Context : Type 0 where
  InText : Context
  InStyle : Context
  InTag : List ℕ → List ℕ → Context
  InValue : List ℕ → List ℕ → Context

abbrev pub is_space : ℕ → Bool
is_space b = (b == 32) || ((b == 10) || ((b == 9) || ((b == 12) || (b == 13))))

-- the name of a tag: the first word that is read
abbrev pub name_by : List ℕ → List ℕ → List ℕ
name_by [] word = word
name_by (b ∷ name) word = b ∷ name

abbrev pub behind : List ℕ → Context
behind name = if str_eq_ignore_ascii_case name (codes "style") then InStyle else InText

-- where the byte after it is: `<` begins a tag, `>` ends it, and a quote begins or ends a value
abbrev pub next : Context → ℕ → Context
next InText b = if b == 60 then InTag [] [] else InText
next InStyle b = if b == 60 then InTag [] [] else InStyle
next (InTag name word) b =
    if b == 62 then behind (name_by name word)
    else if b == 34 then InValue (name_by name word) word
    else if is_space b then InTag (name_by name word) []
    else InTag name (word ++ b ∷ [])
next (InValue name word) b = if b == 34 then InTag name [] else InValue name word

-- where a text that begins there ends
abbrev pub ends : Context → List ℕ → Context
ends c [] = c
ends c (b ∷ text) = ends (next c b) text

-- a byte of a colour or a name: a letter, a digit or `#`
abbrev pub is_style_byte : ℕ → Bool
is_style_byte b = (b == 35) || is_ascii_alphanumeric b

-- a byte, if it is of a tag and not of the value of an attribute, or a mark of a style
abbrev pub tag_byte : Context → ℕ → List ℕ
tag_byte InText b = if b == 60 then b ∷ [] else []
tag_byte InStyle b = if is_style_byte b then [] else b ∷ []
tag_byte (InTag name word) b = b ∷ []
tag_byte (InValue name word) b = if b == 34 then b ∷ [] else []

abbrev pub tags_from : Context → List ℕ → List ℕ
tags_from c [] = []
tags_from c (b ∷ text) = tag_byte c b ++ tags_from (next c b) text

-- the tags of a text without the values of their attributes, and the marks of its style
abbrev pub tags_of : List ℕ → List ℕ
tags_of text = tags_from InText text

-- where HTML is: in a page of this site, or in one of another site
pub data Place : Type 0 where
  OwnPage : Place
  OtherPage : Place

-- the elements that it may have there
abbrev pub elements : Place → List (List ℕ)
elements OwnPage =
    codes "!DOCTYPE" ∷ codes "html" ∷ codes "head" ∷ codes "meta" ∷ codes "title" ∷ codes "style" ∷ codes "body"
    ∷ codes "header" ∷ codes "main" ∷ codes "h1" ∷ codes "h2" ∷ codes "p" ∷ codes "a" ∷ codes "bdi" ∷ codes "span"
    ∷ codes "div" ∷ codes "ul" ∷ codes "li" ∷ codes "dl" ∷ codes "dt" ∷ codes "dd" ∷ codes "form" ∷ codes "label"
    ∷ codes "input" ∷ codes "button" ∷ []
elements OtherPage =
    codes "div" ∷ codes "p" ∷ codes "ul" ∷ codes "li" ∷ codes "a" ∷ codes "span" ∷ codes "bdi" ∷ []

-- the name of a tag is that of such an element, or of the end of one
abbrev pub is_element : Place → List ℕ → Bool
is_element place name = list_any (λ (known : List ℕ). bytes_eq name known || bytes_eq name (47 ∷ known)) (elements place)

-- the attributes that it may have there
abbrev pub attributes : Place → List (List ℕ)
attributes OwnPage =
    codes "class=" ∷ codes "href=" ∷ codes "lang=" ∷ codes "title=" ∷ codes "charset=" ∷ codes "name=" ∷ codes "content="
    ∷ codes "action=" ∷ codes "method=" ∷ codes "type=" ∷ codes "value=" ∷ codes "for=" ∷ codes "id=" ∷ codes "maxlength=" ∷ []
attributes OtherPage = codes "class=" ∷ codes "href=" ∷ codes "lang=" ∷ []

abbrev pub is_attribute : Place → List ℕ → Bool
is_attribute place word = list_any (λ (known : List ℕ). bytes_eq word known) (attributes place)

-- if a byte begins the value of an attribute, or ends a tag, that may be there
abbrev pub may_be : Place → List ℕ → List ℕ → ℕ → Bool
may_be place name word b =
    (if b == 34 then is_attribute place word else true) && (if b == 62 then is_element place (name_by name word) else true)

-- what is before the quote of an attribute whose value is an address
abbrev pub is_address : List ℕ → Bool
is_address word =
    str_eq_ignore_ascii_case word (codes "href=") || (str_eq_ignore_ascii_case word (codes "src=")
    || (str_eq_ignore_ascii_case word (codes "action=") || str_eq_ignore_ascii_case word (codes "formaction=")))

-- a text begins with this, in any case of letters
abbrev pub has_front : List ℕ → List ℕ → Bool
has_front [] text = true
has_front (a ∷ front) [] = false
has_front (a ∷ front) (b ∷ text) = (to_ascii_lowercase b == to_ascii_lowercase a) && has_front front text

-- an address of this site: a slash, and no other one behind it. Browsers take a backslash for one, and skip some control bytes
abbrev pub is_local : List ℕ → Bool
is_local [] = false
is_local (a ∷ []) = false
is_local (a ∷ b ∷ text) = (a == 47) && not ((b == 47) || ((b == 92) || is_control b))

-- an address that is the same in the pages of all sites: one of `http` or `https`
abbrev pub is_absolute : List ℕ → Bool
is_absolute text = has_front (codes "http://") text || has_front (codes "https://") text

-- a page may also have addresses of its own site
abbrev pub is_safe : Place → List ℕ → Bool
is_safe OwnPage text = is_local text || is_absolute text
is_safe OtherPage text = is_absolute text

-- if a byte is the quote at the front of an address, what follows it is safe; and the byte may be there
abbrev pub is_safe_at : Place → Context → ℕ → List ℕ → Bool
is_safe_at place InText b text = true
is_safe_at place InStyle b text = true
is_safe_at place (InTag name word) b text =
    (if (b == 34) && is_address word then is_safe place text else true) && may_be place name word b
is_safe_at place (InValue name word) b text = true

-- each address of a text is safe, and each element and attribute may be there
abbrev pub are_safe : Place → Context → List ℕ → Bool
are_safe place c [] = true
are_safe place c (b ∷ text) = is_safe_at place c b text && are_safe place (next c b) text

-- a text has the tags of this HTML and the marks of its style, ends outside of them, and its addresses, elements and attributes
-- may be there
pub record HasTagsOf (place : Place) (html text : List ℕ) : Type 0 where
  pub same : tags_of text ≡ tags_of html
  pub closed : ends InText text ≡ InText
  pub safe : are_safe place InText text ≡ true
