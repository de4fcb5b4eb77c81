-- No value changes the tags and the style of a sound template, and its addresses are safe.
use Rattle.std.proofs.Common.{◌≡◌, ℕ, Bool, List, [], ◌∷◌, ◌++◌, true, false, refl, ap, ◌∙◌, sym, append_assoc, rules, subst, arith}
use Rattle.std.proofs.lemmas.Bool.{and_from, and_parts}
use Rattle.std.proofs.lemmas.Bool.Decides.{nat_tests}
use Rattle.std.specs.Prelude.{◌==◌, ◌&&◌, ◌||◌, if◌then◌else◌, not}
use Rattle.std.specs.List.{AllByRecursion, flat_map, list_all}
use Rattle.std.proofs.lemmas.List.Elements.{recursion_from_All}
use denote.Enum.Bare.{same_true}
use Rattle.node_response.specs.Escapes.{escaped, is_control, is_markup}
use Rattle.node_response.proofs.EscapedTexts.{no_markup}
use Rattle.node_site.specs.Site as site_file
use Rattle.node_site.specs.Texts.{text_of}
use Rattle.node_site.specs.Hosts.{is_link}
use Rattle.node_templates.specs.declared.slot.Slot.{Slot}
use Rattle.node_templates.specs.contracts.slot.Slot.{the_type}
use Rattle.node_templates.specs.declared.template.Hole.{Hole}
use Rattle.node_templates.specs.declared.template.Hole.TheVariants.{Nothing, Value, Words}
use Rattle.node_templates.specs.declared.template.When.{When}
use Rattle.node_templates.specs.declared.template.When.TheVariants.{Always, Given, Linked, Styled}
use Rattle.node_templates.specs.declared.template.Template.TheVariants as template
use Rattle.node_templates.specs.PlainTexts.{is_plain}
use Rattle.node_templates.specs.Values.{Values, value_of}
use Rattle.node_templates.specs.Pages.{Part, has_bytes, hole_text, is_shown, is_style, line_text, lines_text, page_text, fragment_text, fragments_text}
use Rattle.node_templates.specs.Pages.{template_text}
use Rattle.node_templates.specs.Sound.{are_sound, are_sound_lines, begins_safely, ends_well, html_of, is_linked, is_same, is_sound_at}
use Rattle.node_templates.specs.Sound.{are_sound_parts, is_sound, is_sound_html, is_sound_line, is_styled, takes, takes_hole, begins_with_quote}
use Rattle.node_templates.specs.Tags.{Context, InText, InStyle, InTag, InValue, next, ends, tags_from, is_address, is_safe, is_safe_at, are_safe}
use Rattle.node_templates.specs.Tags.{is_style_byte, may_be, HasTagsOf, Place, OwnPage}
use Rattle.node_templates.specs.Laws.{TemplatesAreSound, line_html, lines_html, page_html}
use Rattle.node_templates.specs.Templates.{lines_of}
use Rattle.node_templates.proofs.Reading.{ends-append, tags-append, safe-append, IsPassed, IsQuiet, quiet, style_passed, text_passed}
use Rattle.node_templates.proofs.Reading.{value_passed, Reads, Reads-append}
use Rattle.node_templates.proofs.Links.{safe-escaped}
use Rattle.node_templates.proofs.PlainTexts.{escaped_plain}

-- the check of each template computes
pub are_all_sound : TemplatesAreSound
unfolding lines_of
are_all_sound template.Top = refl
are_all_sound other = refl

begins-append : (place : Place) (linked : Bool) (html rest : List ℕ) → begins_safely place linked html ≡ true → (linked ≡ true → is_safe place rest ≡ true)
    → is_safe place (html ++ rest) ≡ true
begins-append place linked [] rest h safe = safe h
begins-append place linked (b ∷ html) rest h safe = safe-append place (b ∷ html) rest h

begins_if : (place : Place) (t linked : Bool) (html rest : List ℕ) → (if t then begins_safely place linked html else true) ≡ true
    → (linked ≡ true → is_safe place rest ≡ true) → (if t then is_safe place (html ++ rest) else true) ≡ true
begins_if place true linked html rest h safe = begins-append place linked html rest h safe
begins_if place false linked html rest h safe = refl

sound_at : (place : Place) (linked : Bool) (c : Context) (b : ℕ) (html rest : List ℕ) → is_sound_at place linked c b html ≡ true
    → (linked ≡ true → is_safe place rest ≡ true) → is_safe_at place c b (html ++ rest) ≡ true
sound_at place linked InText b html rest h safe = refl
sound_at place linked InStyle b html rest h safe = refl
sound_at place linked (InTag name word) b html rest h safe =
    let t = (b == 34) && is_address word in
    let begins = if t then begins_safely place linked html else true in
    let may = may_be place name word b in
    let parts = and_parts begins may (and_parts (not (b == 39) && (if b == 61 then begins_with_quote html else true)) (begins && may) h).1 in
    and_from (if t then is_safe place (html ++ rest) else true) may (begins_if place t linked html rest parts.0 safe) parts.1
sound_at place linked (InValue name word) b html rest h safe = refl

sound_html : (place : Place) (linked : Bool) (c : Context) (html rest : List ℕ) → is_sound_html place linked c html ≡ true
    → (linked ≡ true → is_safe place rest ≡ true) → are_safe place (ends c html) rest ≡ true → are_safe place c (html ++ rest) ≡ true
sound_html place linked c [] rest h safe after = after
sound_html place linked c (b ∷ html) rest h safe after =
    let parts = and_parts (is_sound_at place linked c b html) (is_sound_html place linked (next c b) html) h in
    and_from (is_safe_at place c b (html ++ rest)) (are_safe place (next c b) (html ++ rest)) (sound_at place linked c b html rest parts.0 safe)
    (sound_html place linked (next c b) html rest parts.1 safe after)

-- a byte of a style is ASCII that stands for itself
style_plain : (b : ℕ) → is_style_byte b ≡ true → is_plain b ≡ true
style_plain b h = grind (arith, nat_tests)

style_open : (b : ℕ) → is_style_byte b ≡ true → (b == 60) ≡ false
style_open b h = grind (arith, nat_tests)

all_plain : (text : List ℕ) → list_all is_style_byte text ≡ true → list_all is_plain text ≡ true
all_plain [] h = refl
all_plain (b ∷ text) h =
    let parts = and_parts (is_style_byte b) (list_all is_style_byte text) h in
    and_from (is_plain b) (list_all is_plain text) (style_plain b parts.0) (all_plain text parts.1)

all_passed : (text : List ℕ) → list_all is_style_byte text ≡ true → AllByRecursion (IsPassed InStyle) text
all_passed [] h = tt
all_passed (b ∷ text) h =
    let parts = and_parts (is_style_byte b) (list_all is_style_byte text) h in
    (style_passed b parts.0 (style_open b parts.0), all_passed text parts.1)

each : (P Q : ℕ → Type 0) → ((b : ℕ) → P b → Q b) → (text : List ℕ) → AllByRecursion P text → AllByRecursion Q text
each P Q f [] h = tt
each P Q f (b ∷ text) h = (f b h.0, each P Q f text h.1)

pub escaped_unmarked : (text : List ℕ) → AllByRecursion (λ b. (is_markup b || is_control b) ≡ false) (escaped text)
escaped_unmarked text = recursion_from_All (λ b. (is_markup b || is_control b) ≡ false) (escaped text) (no_markup text)

-- an escaped text does nothing where a template has it
escaped_quiet : (styled : Bool) (c : Context) (text rest : List ℕ) → takes styled c ≡ true → (styled ≡ true → is_style text ≡ true)
    → IsQuiet c (escaped text) rest
escaped_quiet styled InText text rest h word =
    quiet InText (escaped text) rest (each (λ b. (is_markup b || is_control b) ≡ false) (IsPassed InText) text_passed (escaped text) (escaped_unmarked text))
escaped_quiet styled InStyle text rest h word =
    let all = (and_parts (has_bytes text) (list_all is_style_byte text) (word h)).1 in
    quiet InStyle (escaped text) rest (subst (AllByRecursion (IsPassed InStyle)) (sym (escaped_plain text (all_plain text all))) (all_passed text all))
escaped_quiet styled (InTag name read) text rest h word = cc
escaped_quiet styled (InValue name read) text rest h word =
    quiet (InValue name read) (escaped text) rest
    (each (λ b. (is_markup b || is_control b) ≡ false) (IsPassed (InValue name read)) (value_passed name read) (escaped text) (escaped_unmarked text))

same_context : (c d : Context) → is_same c d ≡ true → c ≡ d
same_context InText InText h = refl
same_context InText InStyle h = cc
same_context InText (InTag name word) h = cc
same_context InText (InValue name word) h = cc
same_context InStyle InText h = cc
same_context InStyle InStyle h = refl
same_context InStyle (InTag name word) h = cc
same_context InStyle (InValue name word) h = cc
same_context (InTag name word) d h = cc
same_context (InValue name word) d h = cc

left_out : (t : Bool) (c d : Context) (html : List ℕ) → ends c html ≡ d → is_same c d ≡ true → ends c (if t then html else []) ≡ d
left_out true c d html is h = is
left_out false c d html is h = same_context c d h

-- the same of a text that ends outside of tags and styles
record Closes (place : Place) (c : Context) (html text : List ℕ) : Type 0 where
  reads : Reads place c html text
  closed : ends c html ≡ InText

module _ (site : site_file.SiteValue) (values : Values) where
  -- the value in a style is a word
  styled_word : (when : When) (slot : Slot) → is_shown site values when ≡ true → is_styled when (Value slot) ≡ true
      → is_style (value_of site values slot) ≡ true
  styled_word (Styled slot) other shown h =
      let same : slot ≡ other = same_true the_type (search rules) slot other h in
      ap (λ s. is_style (value_of site values s)) (sym same) ∙ shown
  styled_word Always other shown h = cc
  styled_word (Given slot) other shown h = cc
  styled_word (Linked slot) other shown h = cc

  hole_quiet : (when : When) (c : Context) (hole : Hole) → is_shown site values when ≡ true → takes_hole when c hole ≡ true → (rest : List ℕ)
      → IsQuiet c (hole_text site values hole) rest
  hole_quiet when c Nothing shown h rest = record { stays = refl; shows = refl; safe = λ place. refl }
  hole_quiet when c (Value slot) shown h rest =
      escaped_quiet (is_styled when (Value slot)) c (value_of site values slot) rest h (styled_word when slot shown)
  hole_quiet when c (Words text) shown h rest = escaped_quiet false c (text_of site text) rest h (λ e. cc)

  -- the value at the front of an address is safe
  linked_safe : (place : Place) (when : When) (hole : Hole) (rest : List ℕ) → is_shown site values when ≡ true → is_linked when hole ≡ true
      → is_safe place (hole_text site values hole ++ rest) ≡ true
  linked_safe place (Linked slot) (Value other) rest shown h =
      let same : slot ≡ other = same_true the_type (search rules) slot other h in
      safe-escaped place (value_of site values other) rest (ap (λ s. is_link (value_of site values s)) (sym same) ∙ shown)
  linked_safe place (Linked slot) Nothing rest shown h = cc
  linked_safe place (Linked slot) (Words text) rest shown h = cc
  linked_safe place Always hole rest shown h = cc
  linked_safe place (Given slot) hole rest shown h = cc
  linked_safe place (Styled slot) hole rest shown h = cc

  fragments_keep : (place : Place) (when : When) → is_shown site values when ≡ true → (c : Context) (fragments : List (List ℕ × Hole))
      → are_sound place when c fragments ≡ true → Reads place c (html_of fragments) (flat_map (fragment_text site values) fragments)
  fragments_keep place when shown c [] h = record { same = refl; stops = refl; safe = refl }
  fragments_keep place when shown c (fragment ∷ fragments) h =
      let html = fragment.0 in
      let hole = hole_text site values fragment.1 in
      let rest = flat_map (fragment_text site values) fragments in
      let d = ends c html in
      let linked = is_linked when fragment.1 in
      let parts = and_parts (is_sound_html place linked c html) (takes_hole when d fragment.1 && are_sound place when d fragments) h in
      let more = and_parts (takes_hole when d fragment.1) (are_sound place when d fragments) parts.1 in
      let keeps = fragments_keep place when shown d fragments more.1 in
      let q = hole_quiet when d fragment.1 shown more.0 rest in
      record {
        same =
            ap (tags_from c) (append_assoc html hole rest) ∙ tags-append c html (hole ++ rest)
            ∙ ap (λ (t : List ℕ). tags_from c html ++ t) (q.shows ∙ keeps.same) ∙ sym (tags-append c html (html_of fragments));
        stops =
            ap (ends c) (append_assoc html hole rest) ∙ ends-append c html (hole ++ rest) ∙ q.stays ∙ keeps.stops
            ∙ sym (ends-append c html (html_of fragments));
        safe =
            ap (are_safe place c) (append_assoc html hole rest)
            ∙ sound_html place linked c html (hole ++ rest) parts.0 (linked_safe place when fragment.1 rest shown) (q.safe place ∙ keeps.safe);
      }

  line_if : (place : Place) (t : Bool) (c : Context) (line : When × List (List ℕ × Hole)) → is_shown site values line.0 ≡ t
      → are_sound place line.0 c line.1 ≡ true
      → Reads place c (if t then html_of line.1 else []) (if t then fragments_text site values line.1 else [])
  unfolding fragments_text
  line_if place true c line shown h = fragments_keep place line.0 shown c line.1 h
  line_if place false c line shown h = record { same = refl; stops = refl; safe = refl }

  -- a line ends in the same place whether or not it is written
  stops_if : (when : When) (c d : Context) (html : List ℕ) → ends c html ≡ d → ends_well when c d ≡ true
      → ends c (if is_shown site values when then html else []) ≡ d
  stops_if Always c d html is h = is
  stops_if (Given slot) c d html is h = left_out (is_shown site values (Given slot)) c d html is h
  stops_if (Linked slot) c d html is h = left_out (is_shown site values (Linked slot)) c d html is h
  stops_if (Styled slot) c d html is h = left_out (is_shown site values (Styled slot)) c d html is h

  lines_keep : (place : Place) (c : Context) (lines : List (When × List (List ℕ × Hole))) → are_sound_lines place c lines ≡ true
      → Closes place c (lines_html site values lines) (lines_text site values lines)
  lines_keep place c [] h = record { reads = record { same = refl; stops = refl; safe = refl }; closed = same_context c InText h }
  lines_keep place c (line ∷ lines) h =
      let d = ends c (html_of line.1) in
      let parts = and_parts (is_sound_line place c line) (are_sound_lines place d lines) h in
      let own = and_parts (are_sound place line.0 c line.1) (ends_well line.0 c d) parts.0 in
      let more = lines_keep place d lines parts.1 in
      let html = line_html site values line in
      let stops : ends c html ≡ d = stops_if line.0 c d (html_of line.1) refl own.1 in
      record {
        reads =
            Reads-append place c html (lines_html site values lines) (line_text site values line) (lines_text site values lines)
            (line_if place (is_shown site values line.0) c line refl own.0)
            (subst (λ e. Reads place e (lines_html site values lines) (lines_text site values lines)) (sym stops) more.reads);
        closed = ends-append c html (lines_html site values lines) ∙ ap (λ e. ends e (lines_html site values lines)) stops ∙ more.closed;
      }

module _ (place : Place) (site : site_file.SiteValue) where
  parts_keep : (parts : List Part) → are_sound_parts place parts ≡ true → Closes place InText (page_html site parts) (page_text site parts)
  unfolding page_html page_text template_text
  parts_keep [] h = record { reads = record { same = refl; stops = refl; safe = refl }; closed = refl }
  parts_keep (part ∷ parts) h =
      let html = lines_html site part.1 (lines_of part.0) in
      let text = lines_text site part.1 (lines_of part.0) in
      let sound = and_parts (is_sound place (lines_of part.0)) (are_sound_parts place parts) h in
      let first = lines_keep site part.1 place InText (lines_of part.0) sound.0 in
      let more = parts_keep parts sound.1 in
      record {
        reads =
            Reads-append place InText html (page_html site parts) text (page_text site parts) first.reads
            (subst (λ e. Reads place e (page_html site parts) (page_text site parts)) (sym first.closed) more.reads);
        closed = ends-append InText html (page_html site parts) ∙ ap (λ e. ends e (page_html site parts)) first.closed ∙ more.closed;
      }

pub parts_have_tags : (place : Place) (site : site_file.SiteValue) (parts : List Part) → are_sound_parts place parts ≡ true
    → HasTagsOf place (page_html site parts) (page_text site parts)
parts_have_tags place site parts h =
    let keeps = parts_keep place site parts h in
    record { same = keeps.reads.same; closed = keeps.reads.stops ∙ keeps.closed; safe = keeps.reads.safe }

-- each template may be in a page
parts_sound : (parts : List Part) → are_sound_parts OwnPage parts ≡ true
parts_sound [] = refl
parts_sound (part ∷ parts) = and_from (is_sound OwnPage (lines_of part.0)) (are_sound_parts OwnPage parts) (are_all_sound part.0) (parts_sound parts)

pub page_keeps : (site : site_file.SiteValue) (parts : List Part) → HasTagsOf OwnPage (page_html site parts) (page_text site parts)
page_keeps site parts = parts_have_tags OwnPage site parts (parts_sound parts)
