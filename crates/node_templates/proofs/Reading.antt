-- How texts are read one after another.
use Rattle.std.proofs.Common.{◌≡◌, ℕ, Bool, List, [], ◌∷◌, ◌++◌, true, false, refl, ap, ◌∙◌, sym, append_assoc, inl, inr, codes}
use Rattle.std.proofs.lemmas.Bool.{and_from, and_parts, or_cases, or_left, or_parts, or_right}
use Rattle.std.specs.Prelude.{◌==◌, ◌&&◌, ◌||◌, if◌then◌else◌}
use Rattle.std.specs.List.{AllByRecursion}
use Rattle.std.specs.Char.{to_ascii_lowercase}
use Rattle.node_response.specs.Escapes.{is_control, is_markup}
use Rattle.node_templates.specs.Tags.{Context, InText, InStyle, InTag, InValue, next, ends, tag_byte, tags_from, is_address, has_front, is_local}
use Rattle.node_templates.specs.Tags.{Place, OwnPage, OtherPage, is_absolute, is_safe, is_safe_at, are_safe, is_style_byte, may_be}

pub ends-append : (c : Context) (a b : List ℕ) → ends c (a ++ b) ≡ ends (ends c a) b
ends-append c [] b = refl
ends-append c (x ∷ a) b = ends-append (next c x) a b

pub tags-append : (c : Context) (a b : List ℕ) → tags_from c (a ++ b) ≡ tags_from c a ++ tags_from (ends c a) b
tags-append c [] b = refl
tags-append c (x ∷ a) b =
    ap (λ t. tag_byte c x ++ t) (tags-append (next c x) a b)
    ∙ sym (append_assoc (tag_byte c x) (tags_from (next c x) a) (tags_from (ends (next c x) a) b))

front-append : (front a b : List ℕ) → has_front front a ≡ true → has_front front (a ++ b) ≡ true
front-append [] a b h = refl
front-append (f ∷ front) [] b h = cc
front-append (f ∷ front) (x ∷ a) b h =
    let parts = and_parts (to_ascii_lowercase x == to_ascii_lowercase f) (has_front front a) h in
    and_from (to_ascii_lowercase x == to_ascii_lowercase f) (has_front front (a ++ b)) parts.0 (front-append front a b parts.1)

local-append : (a b : List ℕ) → is_local a ≡ true → is_local (a ++ b) ≡ true
local-append [] b h = cc
local-append (x ∷ []) b h = cc
local-append (x ∷ y ∷ a) b h = h

absolute-append : (a b : List ℕ) → is_absolute a ≡ true → is_absolute (a ++ b) ≡ true
absolute-append a b h = elim (or_cases (has_front (codes "http://") a) (has_front (codes "https://") a) h) [
  | inl e ↦ or_left (has_front (codes "http://") (a ++ b)) (has_front (codes "https://") (a ++ b)) (front-append (codes "http://") a b e)
  | inr e ↦ or_right (has_front (codes "http://") (a ++ b)) (has_front (codes "https://") (a ++ b)) (front-append (codes "https://") a b e)
]

pub safe-append : (place : Place) (a b : List ℕ) → is_safe place a ≡ true → is_safe place (a ++ b) ≡ true
safe-append OwnPage a b h = elim (or_cases (is_local a) (is_absolute a) h) [
  | inl e ↦ or_left (is_local (a ++ b)) (is_absolute (a ++ b)) (local-append a b e)
  | inr e ↦ or_right (is_local (a ++ b)) (is_absolute (a ++ b)) (absolute-append a b e)
]
safe-append OtherPage a b h = absolute-append a b h

-- a test by a premise, also where what is tested grows
safe_if : (place : Place) (t : Bool) (a b : List ℕ) → (if t then is_safe place a else true) ≡ true → (if t then is_safe place (a ++ b) else true) ≡ true
safe_if place true a b h = safe-append place a b h
safe_if place false a b h = refl

safe_at-append : (place : Place) (c : Context) (x : ℕ) (a b : List ℕ) → is_safe_at place c x a ≡ true → is_safe_at place c x (a ++ b) ≡ true
safe_at-append place InText x a b h = refl
safe_at-append place InStyle x a b h = refl
safe_at-append place (InTag name word) x a b h =
    let t = (x == 34) && is_address word in
    let parts = and_parts (if t then is_safe place a else true) (may_be place name word x) h in
    and_from (if t then is_safe place (a ++ b) else true) (may_be place name word x) (safe_if place t a b parts.0) parts.1
safe_at-append place (InValue name word) x a b h = refl

are_safe-append : (place : Place) (c : Context) (a b : List ℕ) → are_safe place c a ≡ true → are_safe place (ends c a) b ≡ true → are_safe place c (a ++ b) ≡ true
are_safe-append place c [] b h g = g
are_safe-append place c (x ∷ a) b h g =
    let parts = and_parts (is_safe_at place c x a) (are_safe place (next c x) a) h in
    and_from (is_safe_at place c x (a ++ b)) (are_safe place (next c x) (a ++ b)) (safe_at-append place c x a b parts.0)
    (are_safe-append place (next c x) a b parts.1 g)

-- from a context on, a text has the tags of this HTML, ends where it ends, and its addresses, elements and attributes may be there
pub record Reads (place : Place) (c : Context) (html text : List ℕ) : Type 0 where
  pub same : tags_from c text ≡ tags_from c html
  pub stops : ends c text ≡ ends c html
  pub safe : are_safe place c text ≡ true

-- two texts one after another
pub Reads-append : (place : Place) (c : Context) (g h a b : List ℕ) → Reads place c g a → Reads place (ends c g) h b → Reads place c (g ++ h) (a ++ b)
Reads-append place c g h a b l r = record {
  same =
      tags-append c a b ∙ ap (λ (u : List ℕ). u ++ tags_from (ends c a) b) l.same
      ∙ ap (λ d. tags_from c g ++ tags_from d b) l.stops ∙ ap (λ (u : List ℕ). tags_from c g ++ u) r.same ∙ sym (tags-append c g h);
  stops = ends-append c a b ∙ ap (λ d. ends d b) l.stops ∙ r.stops ∙ sym (ends-append c g h);
  safe = are_safe-append place c a b l.safe (ap (λ d. are_safe place d b) l.stops ∙ r.safe);
}

-- a byte that does nothing there
pub record IsPassed (c : Context) (b : ℕ) : Type 0 where
  pub stays : next c b ≡ c
  pub shows : tag_byte c b ≡ []
  pub opens : (place : Place) (text : List ℕ) → is_safe_at place c b text ≡ true

-- neither `<` nor a quote
plain_parts : (b : ℕ) → (is_markup b || is_control b) ≡ false → ((b == 60) ≡ false) × ((b == 34) ≡ false)
plain_parts b u =
    let markup = or_parts (is_markup b) (is_control b) u in
    let last = or_parts ((b == 60) || (b == 62) || (b == 34)) (b == 39) markup.0 in
    let quote = or_parts ((b == 60) || (b == 62)) (b == 34) last.0 in
    ((or_parts (b == 60) (b == 62) quote.0).0, quote.1)

pub text_passed : (b : ℕ) → (is_markup b || is_control b) ≡ false → IsPassed InText b
text_passed b u = record { stays = rw (plain_parts b u).0 refl; shows = rw (plain_parts b u).0 refl; opens = λ place text. refl }

pub value_passed : (name word : List ℕ) (b : ℕ) → (is_markup b || is_control b) ≡ false → IsPassed (InValue name word) b
value_passed name word b u = record { stays = rw (plain_parts b u).1 refl; shows = rw (plain_parts b u).1 refl; opens = λ place text. refl }

pub style_passed : (b : ℕ) → is_style_byte b ≡ true → (b == 60) ≡ false → IsPassed InStyle b
style_passed b u plain = record { stays = rw plain refl; shows = rw u refl; opens = λ place text. refl }

pub record IsQuiet (c : Context) (text rest : List ℕ) : Type 0 where
  pub stays : ends c (text ++ rest) ≡ ends c rest
  pub shows : tags_from c (text ++ rest) ≡ tags_from c rest
  pub safe : (place : Place) → are_safe place c (text ++ rest) ≡ are_safe place c rest

-- a text of such bytes does nothing there
pub quiet : (c : Context) (text rest : List ℕ) → AllByRecursion (IsPassed c) text → IsQuiet c text rest
quiet c [] rest u = record { stays = refl; shows = refl; safe = λ place. refl }
quiet c (b ∷ text) rest u =
    let p = u.0 in
    let q = quiet c text rest u.1 in
    record {
      stays = ap (λ d. ends d (text ++ rest)) p.stays ∙ q.stays;
      shows = ap (λ (t : List ℕ). t ++ tags_from (next c b) (text ++ rest)) p.shows ∙ ap (λ d. tags_from d (text ++ rest)) p.stays ∙ q.shows;
      safe = λ place.
          ap (λ (t : Bool). t && are_safe place (next c b) (text ++ rest)) (p.opens place (text ++ rest))
          ∙ ap (λ d. are_safe place d (text ++ rest)) p.stays ∙ q.safe place;
    }
