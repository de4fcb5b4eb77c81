-- Parts beside a piece: whether their bytes are the same.
use Rattle.std.proofs.Common.{◌≡◌, ◌≢◌, ◌<◌, ◌≤◌, ◌+◌, ◌-◌, ◌&&◌, ◌⊎◌, inl, inr, Bool, true, false}
use Rattle.std.proofs.Common.{eqb, ℕ, suc, List, [], ◌∷◌, length, get_or, Some, None, refl, sym, ◌∙◌, ap, arith}
use Rattle.std.proofs.lemmas.Bool.{eqb-false}
use Rattle.std.proofs.lemmas.List.Elements.{All-tail}
use Rattle.std.specs.Cmp.Lexicographic.{pointwise, bytes_decides}
use Rattle.feed_model.specs.History.{byte_at}
use Rattle.feed_model.specs.Content.{Part, byte_in, end_of}
use Rattle.feed_model.specs.Parts.{DiffersIn, AgreesIn, AreWithin}
use Rattle.feed_parts.specs.Cut.{cut}
use Rattle.feed_parts.proofs.Places.{cases_option, first_none, first_some, second_none, byte_at_inside, byte_at_place, cut_bytes, cut_length, none_behind, starts_earlier}

-- lists of one length that differ do so at an index
pub differ_at : (xs ys : List ℕ) → length xs ≡ length ys → pointwise eqb xs ys ≡ false → (i : ℕ) × (i < length xs) × (get_or xs i 0 ≢ get_or ys i 0)
differ_at [] [] len e = absurd (cc e)
differ_at [] (y ∷ ys) len e = absurd (omega (arith, len))
differ_at (x ∷ xs) [] len e = absurd (omega (arith, len))
differ_at (x ∷ xs) (y ∷ ys) len e = by (eqb x y) refl e (differ_at xs ys (omega (arith, len)))
  where
    by : (b : Bool) → eqb x y ≡ b → (b && pointwise eqb xs ys) ≡ false → (pointwise eqb xs ys ≡ false → (i : ℕ) × (i < length xs) × (get_or xs i 0 ≢ get_or ys i 0))
        → (i : ℕ) × (i < suc (length xs)) × (get_or (x ∷ xs) i 0 ≢ get_or (y ∷ ys) i 0)
    by true t f again = let r = again f in (suc r.0, omega (arith, r.1), r.2)
    by false t f again = (0, omega arith, eqb-false x y t)

-- one part, and the piece, cut to the places that both have
module _ (p : Part) (first : ℕ) (bytes : List ℕ) (low high : ℕ) (part_low : p.first ≤ low) (piece_low : first ≤ low) (part_high : high ≤ end_of p)
    (piece_high : high ≤ first + length bytes) where
  xs : List ℕ
  xs = (cut p.first p.bytes low high).bytes

  ys : List ℕ
  ys = (cut first bytes low high).bytes

  pub cut_differs : low < high → pointwise eqb (cut p.first p.bytes low high).bytes (cut first bytes low high).bytes ≡ false → DiffersIn (p ∷ []) first bytes
  unfolding xs ys
  cut_differs some e =
      let part_len = cut_length p.first low (high - low) p.bytes part_low (omega arith) in
      let piece_len = cut_length first low (high - low) bytes piece_low (omega arith) in
      let d = differ_at xs ys (part_len ∙ sym piece_len) e in
      let place : ℕ = low + d.0 in
      let at : place - low ≡ d.0 = omega arith in
      let below : place < low + (high - low) = omega (arith, d.1, part_len) in
      let x = sym (cut_bytes p.first low (high - low) p.bytes part_low (omega arith) place (omega arith) below) ∙ byte_at_inside low xs place (omega arith) (omega (arith, d.1)) ∙ ap
      (λ i. Some (get_or xs i 0)) at in
      let y = sym (cut_bytes first low (high - low) bytes piece_low (omega arith) place (omega arith) below) ∙ byte_at_inside low ys place (omega arith) (omega (arith, d.1, part_len, piece_len))
      ∙ ap (λ i. Some (get_or ys i 0)) at in
      (place, get_or xs d.0 0, get_or ys d.0 0, second_none (byte_at p.first p.bytes place) None refl ∙ x, y, d.2)

  pub cut_agrees : pointwise eqb (cut p.first p.bytes low high).bytes (cut first bytes low high).bytes ≡ true
      → ((place : ℕ) → p.first ≤ place → place < end_of p → first ≤ place → place < first + length bytes → (low ≤ place) × (place < high)) → AgreesIn (p ∷ []) first bytes
  unfolding xs ys
  cut_agrees e covers place x y f g =
      let here = sym (second_none (byte_at p.first p.bytes place) None refl) ∙ f in
      let in_part = byte_at_place p.first p.bytes place x here in
      let in_piece = byte_at_place first bytes place y g in
      let inside = covers place in_part.0 in_part.1 in_piece.0 in_piece.1 in
      let same = ap (λ zs. byte_at low zs place) ((bytes_decides xs ys).0 e) in
      let in_xs = cut_bytes p.first low (high - low) p.bytes part_low (omega arith) place inside.0 (omega (arith, inside.1)) in
      let in_ys = cut_bytes first low (high - low) bytes piece_low (omega arith) place inside.0 (omega (arith, inside.1)) in
      let u : Some x ≡ Some y = sym here ∙ sym in_xs ∙ same ∙ in_ys ∙ g in
      cc

-- no place in both
pub apart_agrees : (p : Part) (first : ℕ) (bytes : List ℕ) → ((place : ℕ) → p.first ≤ place → place < end_of p → first ≤ place → place < first + length bytes → ⊥)
    → AgreesIn (p ∷ []) first bytes
apart_agrees p first bytes apart place x y f g =
    let in_part = byte_at_place p.first p.bytes place x (sym (second_none (byte_at p.first p.bytes place) None refl) ∙ f) in
    let in_piece = byte_at_place first bytes place y g in
    absurd (apart place in_part.0 in_part.1 in_piece.0 in_piece.1)

-- The parts that are left agree with the piece where the ones before them did.
pub record IsAgreed (size : ℕ) (all : List Part) (first : ℕ) (bytes : List ℕ) (rest : List Part) : Type 0 where
  pub order : AreWithin size rest
  pub shows : (place x : ℕ) → first ≤ place → place < first + length bytes → byte_in rest place ≡ Some x → byte_in all place ≡ Some x
  pub agrees : (place x y : ℕ) → byte_in rest place ≡ None → byte_in all place ≡ Some x → byte_at first bytes place ≡ Some y → x ≡ y

-- the parts that the piece meets
pub agreed_start : (size : ℕ) (all : List Part) (first : ℕ) (bytes : List ℕ) (rest : List Part) → AreWithin size rest
    → ((place : ℕ) → first ≤ place → place < first + length bytes → byte_in rest place ≡ byte_in all place) → IsAgreed size all first bytes rest
agreed_start size all first bytes rest order same = record {
  order = order;
  shows = λ place x from to e. sym (same place from to) ∙ e;
  agrees = λ place x y none some g.
      let inside = byte_at_place first bytes place y g in
      let u : None ≡ Some x = sym none ∙ same place inside.0 inside.1 ∙ some in
      absurd (cc);
}

module _ (size : ℕ) (all : List Part) (first : ℕ) (bytes : List ℕ) (p : Part) (rest : List Part) (agreed : IsAgreed size all first bytes (p ∷ rest)) where
  shown_here : (place x : ℕ) → byte_at p.first p.bytes place ≡ Some x → byte_in (p ∷ rest) place ≡ Some x
  shown_here place x e = first_some (byte_at p.first p.bytes place) (byte_in rest place) x e

  -- a byte that differs from the piece's
  pub differs_in_all : DiffersIn (p ∷ []) first bytes → DiffersIn all first bytes
  differs_in_all d =
      let here = sym (second_none (byte_at p.first p.bytes d.0) None refl) ∙ d.3 in
      let inside = byte_at_place first bytes d.0 d.2 d.4 in
      (d.0, d.1, d.2, agreed.shows d.0 d.1 inside.0 inside.1 (shown_here d.0 d.1 here), d.4, d.5)

  pub agreed_next : AgreesIn (p ∷ []) first bytes → IsAgreed size all first bytes rest
  agreed_next same = record {
    order = record {
      parts = starts_earlier (end_of p) 0 rest (omega arith) agreed.order.parts.3;
      inside = All-tail (λ q. end_of q ≤ size) p rest agreed.order.inside;
    };
    shows = shows;
    agrees = agrees;
  }
    where
      shows : (place x : ℕ) → first ≤ place → place < first + length bytes → byte_in rest place ≡ Some x → byte_in all place ≡ Some x
      shows place x from to e = by (cases_option (byte_at p.first p.bytes place))
        where
          by : (byte_at p.first p.bytes place ≡ None) ⊎ ((y : ℕ) × (byte_at p.first p.bytes place ≡ Some y)) → byte_in all place ≡ Some x
          by (inl none) = agreed.shows place x from to (first_none (byte_at p.first p.bytes place) (byte_in rest place) none ∙ e)
          by (inr some) = absurd (let u : None ≡ Some x = sym (none_behind 0 p rest agreed.order.parts place some.0 some.1) ∙ e in cc)

      agrees : (place x y : ℕ) → byte_in rest place ≡ None → byte_in all place ≡ Some x → byte_at first bytes place ≡ Some y → x ≡ y
      agrees place x y lacks has g = by (cases_option (byte_at p.first p.bytes place))
        where
          by : (byte_at p.first p.bytes place ≡ None) ⊎ ((z : ℕ) × (byte_at p.first p.bytes place ≡ Some z)) → x ≡ y
          by (inl none) = agreed.agrees place x y (first_none (byte_at p.first p.bytes place) (byte_in rest place) none ∙ lacks) has g
          by (inr some) =
              let inside = byte_at_place first bytes place y g in
              let kept : Some x ≡ Some some.0 = sym has ∙ agreed.shows place some.0 inside.0 inside.1 (shown_here place some.0 some.1) in
              let equal = same place some.0 y (second_none (byte_at p.first p.bytes place) None refl ∙ some.1) g in
              cc

-- No part is left.
pub agreed_all : (size : ℕ) (all : List Part) (first : ℕ) (bytes : List ℕ) → IsAgreed size all first bytes [] → AgreesIn all first bytes
agreed_all size all first bytes agreed place x y e f = agreed.agrees place x y refl e f
