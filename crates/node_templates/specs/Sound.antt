-- Templates whose tags, addresses and style no value can change.
use Rattle.std.specs.Prelude.{ℕ, ◌==◌, ◌&&◌, ◌||◌, Bool, true, false, not, if◌then◌else◌, List, [], ◌∷◌, codes}
use Rattle.std.specs.List.{flat_map, list_all}
use Rattle.std.specs.Str.{bytes_eq}
use Rattle.node_templates.specs.contracts.slot.SlotPartialEq.TheImpl.{ghosts}
use Rattle.node_templates.specs.declared.template.Hole.{Hole}
use Rattle.node_templates.specs.declared.template.Hole.TheVariants.{Nothing, Value, Words}
use Rattle.node_templates.specs.declared.template.When.{When}
use Rattle.node_templates.specs.declared.template.When.TheVariants.{Always, Given, Linked, Styled}
use Rattle.node_templates.specs.Pages.{Part}
use Rattle.node_templates.specs.Tags.{Context, InText, InStyle, InTag, InValue, Place, next, ends, is_address, is_safe, may_be}
use Rattle.node_templates.specs.Templates.{lines_of}

-- the HTML of a line, without its values
abbrev pub html_of : List (List ℕ × Hole) → List ℕ
html_of fragments = flat_map (λ (fragment : List ℕ × Hole). fragment.0) fragments

-- the hole is the slot of a line that is written only if its value is safe in a link, or in a style
abbrev pub is_linked : When → Hole → Bool
is_linked (Linked slot) (Value other) = ghosts.eq slot other
is_linked when hole = false

abbrev pub is_styled : When → Hole → Bool
is_styled (Styled slot) (Value other) = ghosts.eq slot other
is_styled when hole = false

-- an attribute that may have a value in it
abbrev pub takes_value : List ℕ → Bool
takes_value word =
    bytes_eq word (codes "href=") || (bytes_eq word (codes "value=") || (bytes_eq word (codes "class=")
    || (bytes_eq word (codes "lang=") || bytes_eq word (codes "title="))))

-- the HTML begins an address that is safe, or leaves it to such a hole
abbrev pub begins_safely : Place → Bool → List ℕ → Bool
begins_safely place linked [] = linked
begins_safely place linked (b ∷ html) = is_safe place (b ∷ html)

abbrev pub begins_with_quote : List ℕ → Bool
begins_with_quote [] = false
begins_with_quote (b ∷ html) = b == 34

-- a byte of a tag: no single quote, a double quote behind `=`, safe addresses, elements and attributes that may be there
abbrev pub is_sound_byte : Place → Bool → List ℕ → List ℕ → ℕ → List ℕ → Bool
is_sound_byte place linked name word b html =
    (not (b == 39) && (if b == 61 then begins_with_quote html else true))
    && ((if (b == 34) && is_address word then begins_safely place linked html else true) && may_be place name word b)

abbrev pub is_sound_at : Place → Bool → Context → ℕ → List ℕ → Bool
is_sound_at place linked InText b html = true
is_sound_at place linked InStyle b html = true
is_sound_at place linked (InTag name word) b html = is_sound_byte place linked name word b html
is_sound_at place linked (InValue name word) b html = true

-- HTML before a hole
abbrev pub is_sound_html : Place → Bool → Context → List ℕ → Bool
is_sound_html place linked c [] = true
is_sound_html place linked c (b ∷ html) = is_sound_at place linked c b html && is_sound_html place linked (next c b) html

-- a value is in a text, or in an attribute that may have one; in a style it is a word
abbrev pub takes : Bool → Context → Bool
takes styled InText = true
takes styled InStyle = styled
takes styled (InTag name word) = false
takes styled (InValue name word) = takes_value word

abbrev pub takes_hole : When → Context → Hole → Bool
takes_hole when c Nothing = true
takes_hole when c (Value slot) = takes (is_styled when (Value slot)) c
takes_hole when c (Words text) = takes false c

-- the fragments of a line
abbrev pub are_sound : Place → When → Context → List (List ℕ × Hole) → Bool
are_sound place when c [] = true
are_sound place when c (fragment ∷ fragments) =
    is_sound_html place (is_linked when fragment.1) c fragment.0
    && (takes_hole when (ends c fragment.0) fragment.1 && are_sound place when (ends c fragment.0) fragments)

-- both are in a text, or both in a style
abbrev pub is_same : Context → Context → Bool
is_same InText InText = true
is_same InStyle InStyle = true
is_same c d = false

-- a line that may be left out ends where it begins
abbrev pub ends_well : When → Context → Context → Bool
ends_well Always c d = true
ends_well (Given slot) c d = is_same c d
ends_well (Linked slot) c d = is_same c d
ends_well (Styled slot) c d = is_same c d

abbrev pub is_sound_line : Place → Context → When × List (List ℕ × Hole) → Bool
is_sound_line place c line = are_sound place line.0 c line.1 && ends_well line.0 c (ends c (html_of line.1))

-- the lines of a template, which ends in a text
abbrev pub are_sound_lines : Place → Context → List (When × List (List ℕ × Hole)) → Bool
are_sound_lines place c [] = is_same c InText
are_sound_lines place c (line ∷ lines) = is_sound_line place c line && are_sound_lines place (ends c (html_of line.1)) lines

abbrev pub is_sound : Place → List (When × List (List ℕ × Hole)) → Bool
is_sound place lines = are_sound_lines place InText lines

-- the template of each part may be in such HTML
abbrev pub are_sound_parts : Place → List Part → Bool
are_sound_parts place parts = list_all (λ (part : Part). is_sound place (lines_of part.0)) parts
