-- Loops that write an item for each element of a list.
use Rattle.std.proofs.Common.{◌≡◌, ◌+◌, ◌<◌, ℕ, zero, suc, List, [], ◌∷◌, ◌++◌, length, get_or, take, drop, map, refl, sym, ap, ◌∙◌, append_assoc, arith}
use Rattle.std.specs.List.{flat_map}
use Rattle.std.proofs.lemmas.List.{at_drop_more, flat_map_more, take_more}
use Rattle.node_response.specs.JsonLists.{comma_before, items_from}

module _ {X : Type 0} (f : X → List ℕ) (xs : List X) (i : ℕ) (x : X) (below : i < length xs) (is : x ≡ get_or xs i x) where
  -- one more fragment was written
  pub flat_next : (first out after : List ℕ) → out ≡ first ++ flat_map f (take i xs) → after ≡ out ++ f x → after ≡ first ++ flat_map f (take (i + 1) xs)
  flat_next first out after before next =
      next ∙ ap (λ (o : List ℕ). o ++ f x) before ∙ flat_map_more f first (take i xs) x ∙ ap (λ (y : X). first ++ flat_map f (take i xs ++ y ∷ [])) is
      ∙ ap (λ (ys : List X). first ++ flat_map f ys) (sym (take_more xs i x below))

  -- one more item of a list was written behind its separator
  pub items_next : (whole out comma after : List ℕ) → out ++ items_from f i (drop i xs) ≡ whole → comma ≡ out ++ comma_before i → after ≡ comma ++ f x
      → after ++ items_from f (i + 1) (drop (i + 1) xs) ≡ whole
  items_next whole out comma after before separated next =
      let rest = items_from f (i + 1) (drop (i + 1) xs) in
      let made : after ≡ out ++ (comma_before i ++ f x) = next ∙ ap (λ (o : List ℕ). o ++ f x) separated ∙ append_assoc out (comma_before i) (f x) in
      ap (λ (o : List ℕ). o ++ rest) made ∙ append_assoc out (comma_before i ++ f x) rest
      ∙ ap (λ (y : X). out ++ items_from f i (y ∷ drop (i + 1) xs)) is
      ∙ sym (at_drop_more (λ (ys : List X). out ++ items_from f i ys) xs i x below) ∙ before

-- an element of a mapped list
pub mapped_at : {X Y : Type 0} (f : X → Y) (xs : List X) (i : ℕ) (x : X) → x ≡ get_or xs i x → f x ≡ get_or (map f xs) i (f x)
mapped_at {X} {Y} f [] i x is = refl
mapped_at {X} {Y} f (y ∷ xs) zero x is = ap f is
mapped_at {X} {Y} f (y ∷ xs) (suc i) x is = mapped_at f xs i x is

pub mapped_within : {X Y : Type 0} (f : X → Y) (xs : List X) (i : ℕ) → i < length xs → i < length (map f xs)
mapped_within {X} {Y} f [] i below = below
mapped_within {X} {Y} f (y ∷ xs) zero below = omega arith
mapped_within {X} {Y} f (y ∷ xs) (suc i) below = let more = mapped_within f xs i (omega (arith, below)) in omega (arith, more)
