-- The members of sets of identifiers.
use Rattle.std.proofs.Common.{◌≡◌, ℕ, Bool, true, false, ◌||◌, List, [], ◌∷◌, ◌++◌, refl, sym, ap, subst, ◌∙◌}
use Rattle.std.specs.declared.cmp.Ordering.TheVariants.{Less, Equal, Greater}
use Rattle.std.specs.Ordering.{is_eq, nat_cmp, ordering_reverse}
use Rattle.std.specs.Cmp.Lexicographic.{slice_cmp}
use Rattle.std.specs.FinSet.{nat_cmp-IsAntisymmetric, slice_cmp-IsAntisymmetric}
use Rattle.std.specs.List.{AllByRecursion}
use Rattle.std.specs.List.Sorted.{IsStrictlySortedBy}
use Rattle.std.specs.Str.{bytes_eq}
use Rattle.std.proofs.lemmas.Cmp.{nat_list_cmp_total}
use Rattle.std.proofs.lemmas.Map.Text.{is_eq-slice_cmp}
use Rattle.std.proofs.lemmas.Slice.Eq.{bytes_eq-Decides}
use Rattle.feed_answer.specs.IdentifierSet.{IsAscending, bytes_cmp, identifier_set, is_among}
use Rattle.feed_answer.specs.Laws.{SetHasExactlyItsIdentifiers, SetsAscend}

same_bytes : (one : List ℕ) → bytes_eq one one ≡ true
same_bytes one = (bytes_eq-Decides one one).1 refl

-- an identifier below all of a set is not in it
other_bytes : (one other : List ℕ) → bytes_cmp one other ≡ Less → bytes_eq other one ≡ false
other_bytes one other below =
    let above : bytes_cmp other one ≡ Greater = nat_list_cmp_total.antisymm other one ∙ ap ordering_reverse below in
    sym (is_eq-slice_cmp other one) ∙ ap is_eq above

below_all : (one : List ℕ) (set : List (List ℕ)) → AllByRecursion (λ y. bytes_cmp one y ≡ Less) set → is_among one set ≡ false
below_all one [] below = refl
below_all one (other ∷ others) below =
    ap (λ b. b || is_among one others) (other_bytes one other below.0) ∙ below_all one others below.1

all_later : (first second : List ℕ) (set : List (List ℕ)) → bytes_cmp first second ≡ Less
    → AllByRecursion (λ y. bytes_cmp second y ≡ Less) set → AllByRecursion (λ y. bytes_cmp first y ≡ Less) set
all_later first second [] below all = tt
all_later first second (one ∷ set) below all = (nat_list_cmp_total.trans first second one below all.0, all_later first second set below all.1)

-- the first of a set is in no set that begins above it
first_missing : (x y : List ℕ) (xs ys : List (List ℕ)) → bytes_cmp x y ≡ Less → AllByRecursion (λ z. bytes_cmp y z ≡ Less) ys
    → is_among x (x ∷ xs) ≡ is_among x (y ∷ ys) → ⊥
first_missing x y xs ys below above same =
    let there : is_among x (x ∷ xs) ≡ true = ap (λ b. b || is_among x xs) (same_bytes x) in
    let missing = below_all x (y ∷ ys) (below, all_later x y ys below above) in
    cc

-- the rest of two sets that begin alike
module _ (x : List ℕ) (xs ys : List (List ℕ)) (one : List ℕ) where
  in_rest : (b : Bool) → bytes_eq x one ≡ b → AllByRecursion (λ z. bytes_cmp x z ≡ Less) xs → AllByRecursion (λ z. bytes_cmp x z ≡ Less) ys
      → (bytes_eq x one || is_among one xs) ≡ (bytes_eq x one || is_among one ys) → is_among one xs ≡ is_among one ys
  in_rest true e first second same =
      let is : x ≡ one = (bytes_eq-Decides x one).0 e in
      subst (λ (o : List ℕ). is_among o xs ≡ is_among o ys) is (below_all x xs first ∙ sym (below_all x ys second))
  in_rest false e first second same =
      sym (ap (λ b. b || is_among one xs) e) ∙ same ∙ ap (λ b. b || is_among one ys) e

-- two sets with the same members are the same
pub sets_equal : (xs ys : List (List ℕ)) → IsAscending xs → IsAscending ys → ((one : List ℕ) → is_among one xs ≡ is_among one ys) → xs ≡ ys
unfolding IsStrictlySortedBy
sets_equal [] [] up down same = refl
sets_equal [] (y ∷ ys) up down same =
    let there : is_among y (y ∷ ys) ≡ true = ap (λ b. b || is_among y ys) (same_bytes y) in
    let missing = same y in
    absurd (cc)
sets_equal (x ∷ xs) [] up down same =
    let there : is_among x (x ∷ xs) ≡ true = ap (λ b. b || is_among x xs) (same_bytes x) in
    let missing = same x in
    absurd (cc)
sets_equal (x ∷ xs) (y ∷ ys) up down same =
    elim (bytes_cmp x y) as (λ o. bytes_cmp x y ≡ o → x ∷ xs ≡ y ∷ ys) [
      | Less ↦ λ e. absurd (first_missing x y xs ys e down.0 (same x))
      | Equal ↦ λ e.
          let is : x ≡ y = slice_cmp-IsAntisymmetric nat_cmp-IsAntisymmetric x y e in
          let down_x : AllByRecursion (λ z. bytes_cmp x z ≡ Less) ys = subst (λ (w : List ℕ). AllByRecursion (λ z. bytes_cmp w z ≡ Less) ys) (sym is) down.0 in
          let same_x : (one : List ℕ) → is_among one (x ∷ xs) ≡ is_among one (x ∷ ys) = λ one. same one ∙ ap (λ (w : List ℕ). is_among one (w ∷ ys)) (sym is) in
          let rest : xs ≡ ys = sets_equal xs ys up.1 down.1 (λ one. in_rest x xs ys one (bytes_eq x one) refl up.0 down_x (same_x one)) in
          ap (λ l. x ∷ l) rest ∙ ap (λ (w : List ℕ). w ∷ ys) is
      | Greater ↦ λ e.
          absurd (first_missing y x ys xs (nat_list_cmp_total.antisymm y x ∙ ap ordering_reverse e) up.0 (sym (same y)))
    ] refl

pub same_set : SetsAscend → SetHasExactlyItsIdentifiers → (xs ys : List (List ℕ)) → ((one : List ℕ) → is_among one xs ≡ is_among one ys)
    → identifier_set xs ≡ identifier_set ys
same_set ascend exact xs ys same =
    sets_equal (identifier_set xs) (identifier_set ys) (ascend xs) (ascend ys) (λ one. exact xs one ∙ same one ∙ sym (exact ys one))
