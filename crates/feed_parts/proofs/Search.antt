-- A search by halves for a place, and its probes.
use Rattle.std.proofs.Common.{◌≡◌, ◌<◌, ◌≤◌, ◌+◌, ◌-◌, ◌/◌, ◌^◌, ℕ, zero, suc, List, [], ◌∷◌, length, get_or, Some, None, subst, arith}
use Rattle.std.proofs.lemmas.List.{length-map, get_or_default}
use Rattle.std.proofs.lemmas.List.Elements.{All-map}
use Rattle.feed_model.specs.Content.{Part}
use Rattle.feed_parts.specs.declared.part.Part as code_part
use Rattle.feed_parts.specs.Segments.{AreSegments, IsLastFrom}
use Rattle.feed_parts.specs.Shown.{shown_part, shown_parts}
use Rattle.feed_parts.proofs.Order.{starts_rise}

-- the parts before one index begin at the place or before it, those from another on later, and the parts between them
-- are no more than the remaining probes can distinguish
pub record IsSearch (ps : List code_part.Part) (place old probes low high : ℕ) : Type 0 where
  pub small : length ps < 2 ^ 64
  pub order : low ≤ high
  pub within : high ≤ length ps
  pub front : (k : ℕ) (d : code_part.Part) → k < low → (get_or ps k d).first ≤ place
  pub back : (k : ℕ) (d : code_part.Part) → high ≤ k → k < length ps → place < (get_or ps k d).first
  pub rises : old ≤ probes
  pub few : (digits : ℕ) → length ps < 2 ^ digits → (probes ≤ old + digits) × (high - low < 2 ^ (digits - (probes - old)))

half : (n x y : ℕ) → x < 2 ^ n → 0 < x → y + y ≤ x → (1 ≤ n) × (y < 2 ^ (n - 1))
half zero x y lt some le = absurd (omega arith)
half (suc n) x y lt some le =
    let e : suc n - 1 ≡ n = omega arith in
    (omega arith, rw e (omega arith))

pub search_start : (ps : List code_part.Part) (place old : ℕ) → length ps < 2 ^ 64 → IsSearch ps place old old 0 (length ps)
search_start ps place old small = record {
  small = small;
  order = omega arith;
  within = omega arith;
  front = λ k d lt. absurd (omega arith);
  back = λ k d le lt. absurd (omega arith);
  rises = omega arith;
  few = λ digits lt. (omega arith, let e : digits - (old - old) ≡ digits = omega arith in rw e (omega (arith, lt)));
}

module _ (ps : List code_part.Part) (place old probes low high : ℕ) (order : AreSegments (shown_parts ps)) (so : IsSearch ps place old probes low high) (some : low < high)
    (p : code_part.Part) where
  middle : ℕ
  middle = low + (high - low) / 2

  -- with one more probe at most half is left
  fewer : (left : ℕ) → left + left ≤ high - low → (digits : ℕ) → length ps < 2 ^ digits → (probes + 1 ≤ old + digits) × (left < 2 ^ (digits - (probes + 1 - old)))
  fewer left le digits lt =
      let f = so.few digits lt in
      let h = half (digits - (probes - old)) (high - low) left f.1 (omega arith) le in
      let e : digits - (probes + 1 - old) ≡ digits - (probes - old) - 1 = omega (arith, so.rises, f.0) in
      (omega (arith, h.0, f.0, so.rises), rw e h.1)

  pub search_after : (get_or ps (low + (high - low) / 2) p).first ≤ place → IsSearch ps place old (probes + 1) (low + (high - low) / 2 + 1) high
  unfolding middle
  search_after le = record {
    small = so.small;
    order = omega arith;
    within = so.within;
    front = λ k d lt. omega (arith, starts_rise 0 ps order.parts k middle d (omega arith) (omega (arith, so.within)), at d);
    back = so.back;
    rises = omega (arith, so.rises);
    few = fewer (high - (middle + 1)) (omega arith);
  }
    where
      at : (d : code_part.Part) → (get_or ps middle d).first ≤ place
      at d = subst (λ (q : code_part.Part). q.first ≤ place) (get_or_default ps middle p d (omega (arith, so.within))) le

  pub search_before : place < (get_or ps (low + (high - low) / 2) p).first → IsSearch ps place old (probes + 1) low (low + (high - low) / 2)
  unfolding middle
  search_before lt = record {
    small = so.small;
    order = omega arith;
    within = omega (arith, so.within);
    front = so.front;
    back = λ k d le inside. omega (arith, starts_rise 0 ps order.parts middle k d le inside, at d);
    rises = omega (arith, so.rises);
    few = fewer (middle - low) (omega arith);
  }
    where
      at : (d : code_part.Part) → place < (get_or ps middle d).first
      at d = subst (λ (q : code_part.Part). place < q.first) (get_or_default ps middle p d (omega (arith, so.within))) lt

pub found_none : (ps : List code_part.Part) (place old probes low high : ℕ) → IsSearch ps place old probes low high → high ≤ low → low ≡ 0 → IsLastFrom (shown_parts ps) place None
found_none ps place old probes low high so all none = All-map (λ p. place < p.first) shown_part ps (λ k d lt. so.back k d (omega arith) lt)

-- what holds of where each part of the code begins holds of where the part that is seen begins
seen : (P : ℕ → Type 0) (ps : List code_part.Part) (k : ℕ) (d : Part) → k < length ps → ((e : code_part.Part) → P (get_or ps k e).first) → P (get_or (shown_parts ps) k d).first
seen P [] k d lt each = absurd (omega arith)
seen P (p ∷ ps) zero d lt each = each p
seen P (p ∷ ps) (suc k) d lt each = seen P ps k d (omega arith) each

pub found_some : (ps : List code_part.Part) (place old probes low high i : ℕ) → IsSearch ps place old probes low high → high ≤ low → suc i ≡ low → IsLastFrom (shown_parts ps) place (Some i)
found_some ps place old probes low high i so all is =
    let inside : i < length ps = omega (arith, so.order, so.within) in (
      omega (arith, inside, length-map ps shown_part),
      λ d. seen (λ n. n ≤ place) ps i d inside (λ e. so.front i e (omega arith)),
      λ k d after lt.
          let below : k < length ps = omega (arith, lt, length-map ps shown_part) in
          seen (λ n. place < n) ps k d below (λ e. so.back k e (omega arith) below),
    )
