-- Lists put in order by insertion: any order of the same elements gives the same list.
use Rattle.std.proofs.Common.{◌≡◌, Bool, true, false, cond, not, List, [], ◌∷◌, map, filter, refl, sym, ◌∙◌, ap, IsPermutation, if◌then◌else◌}
use Rattle.std.specs.List.{AllByRecursion, IsDistinct}
use Rattle.std.proofs.lemmas.List.Sorted.{IsPermutation-refl, IsPermutation-cons, IsPermutation-middle, IsPermutation-trans}
use Rattle.std.proofs.lemmas.Map.Keys.{IsDistinct-head, IsDistinct-tail, IsDistinct-IsPermutation}
use Rattle.sqlite_trees.proofs.ListLemmas.{along_permutation}

-- x among others, in front of the first at which it stops
abbrev pub ins : {X : Type 0} → (X → X → Bool) → X → List X → List X
ins stops x [] = x ∷ []
ins stops x (y ∷ ys) = if stops x y then x ∷ y ∷ ys else y ∷ ins stops x ys

-- each put among the later ones
abbrev pub sort : {X : Type 0} → (X → X → Bool) → List X → List X
sort stops [] = []
sort stops (x ∷ xs) = ins stops x (sort stops xs)

-- each stops at each later one
abbrev pub IsUp : {X : Type 0} → (X → X → Bool) → List X → Type 0
IsUp stops [] = Unit {0}
IsUp stops (x ∷ xs) = AllByRecursion (λ y. stops x y ≡ true) xs × IsUp stops xs

-- an order in which, of two elements, exactly one stops at the other, unless they tie
pub record IsOrderly {X : Type 0} (e stops : X → X → Bool) : Type 0 where
  pub flips : (x y : X) → e x y ≡ e y x
  pub one_way : (x y : X) → e x y ≡ false → stops x y ≡ not (stops y x)
  pub goes_on : (x y z : X) → stops x z ≡ true → stops y z ≡ false → stops x y ≡ true
  pub chain : (x y z : X) → stops x y ≡ true → stops y z ≡ true → stops x z ≡ true

module _ {X : Type 0} (e stops : X → X → Bool) (laws : IsOrderly e stops) where
  stop : (x y : X) (ys : List X) → stops x y ≡ true → ins stops x (y ∷ ys) ≡ x ∷ y ∷ ys
  stop x y ys s = rw s

  pass : (x y : X) (ys : List X) → stops x y ≡ false → ins stops x (y ∷ ys) ≡ y ∷ ins stops x ys
  pass x y ys s = rw s

  crossed : (x y z : X) (zs : List X) → stops x z ≡ true → stops y z ≡ false → e x y ≡ false → ins stops x (ins stops y (z ∷ zs)) ≡ ins stops y (ins stops x (z ∷ zs))
  crossed x y z zs s t apart =
      let first = laws.goes_on x y z s t in
      let second : stops y x ≡ false = laws.one_way y x (laws.flips y x ∙ apart) ∙ ap not first in
      (ap (ins stops x) (pass y z zs t) ∙ stop x z (ins stops y zs) s)
      ∙ sym (ap (ins stops y) (stop x z zs s) ∙ pass y x (z ∷ zs) second ∙ ap (λ l. x ∷ l) (pass y z zs t))

  turns : (x y : X) (l : List X) → e x y ≡ false → ins stops x (ins stops y l) ≡ ins stops y (ins stops x l)
  turns x y [] apart = by (stops y x) refl
    where
      by : (b : Bool) → stops y x ≡ b → ins stops x (y ∷ []) ≡ ins stops y (x ∷ [])
      by true s = rw (laws.one_way x y apart, s)
      by false s = rw (laws.one_way x y apart, s)
  turns x y (z ∷ zs) apart = by (stops x z) (stops y z) refl refl (turns x y zs apart)
    where
      both : (b : Bool) → stops x z ≡ true → stops y z ≡ true → stops y x ≡ b → ins stops x (y ∷ z ∷ zs) ≡ ins stops y (x ∷ z ∷ zs)
      both true s t u = pass x y (z ∷ zs) (laws.one_way x y apart ∙ ap not u) ∙ ap (λ l. y ∷ l) (stop x z zs s) ∙ sym (stop y x (z ∷ zs) u)
      both false s t u = stop x y (z ∷ zs) (laws.one_way x y apart ∙ ap not u) ∙ sym (pass y x (z ∷ zs) u ∙ ap (λ l. x ∷ l) (stop y z zs t))

      by : (a b : Bool) → stops x z ≡ a → stops y z ≡ b → ins stops x (ins stops y zs) ≡ ins stops y (ins stops x zs)
          → ins stops x (ins stops y (z ∷ zs)) ≡ ins stops y (ins stops x (z ∷ zs))
      by true true s t more = ap (ins stops x) (stop y z zs t) ∙ both (stops y x) s t refl ∙ sym (ap (ins stops y) (stop x z zs s))
      by true false s t more = crossed x y z zs s t apart
      by false true s t more = sym (crossed y x z zs t s (laws.flips y x ∙ apart))
      by false false s t more = (ap (ins stops x) (pass y z zs t) ∙ pass x z (ins stops y zs) s) ∙ ap (λ l. z ∷ l) more
          ∙ sym (ap (ins stops y) (pass x z zs s) ∙ pass y z (ins stops x zs) t)

  abbrev Same : List X → List X → Type 0
  Same xs ys = IsPermutation xs ys × (IsDistinct e xs → sort stops xs ≡ sort stops ys)

  pub sort_moved : (xs ys : List X) → IsPermutation xs ys → IsDistinct e xs → sort stops xs ≡ sort stops ys
  sort_moved xs ys moved = (along_permutation Same
      (λ xs. (IsPermutation-refl xs, λ _. refl))
      (λ x xs ys same. (IsPermutation-cons x xs ys same.0, λ d. ap (ins stops x) (same.1 (IsDistinct-tail e x xs d))))
      (λ x y xs. (IsPermutation-middle (x ∷ []) y xs, λ d. turns x y (sort stops xs) (IsDistinct-head e x (y ∷ xs) d).0))
      (λ xs ys zs a b. (IsPermutation-trans xs ys zs a.0 b.0, λ d. a.1 d ∙ b.1 (IsDistinct-IsPermutation e laws.flips xs ys a.0 d)))
      xs ys moved).1

  all_ins : (P : X → Type 0) (x : X) (l : List X) → P x → AllByRecursion P l → AllByRecursion P (ins stops x l)
  all_ins P x [] p all = (p, tt)
  all_ins P x (y ∷ ys) p all = by (stops x y) (all_ins P x ys p all.1)
    where
      by : (b : Bool) → AllByRecursion P (ins stops x ys) → AllByRecursion P (if b then x ∷ y ∷ ys else y ∷ ins stops x ys)
      by true more = (p, all)
      by false more = (all.0, more)

  all_sort : (P : X → Type 0) (l : List X) → AllByRecursion P l → AllByRecursion P (sort stops l)
  all_sort P [] all = tt
  all_sort P (x ∷ xs) all = all_ins P x (sort stops xs) all.0 (all_sort P xs all.1)

  all_weaker : (P Q : X → Type 0) → ((x : X) → P x → Q x) → (l : List X) → AllByRecursion P l → AllByRecursion Q l
  all_weaker P Q f [] all = tt
  all_weaker P Q f (x ∷ xs) all = (f x all.0, all_weaker P Q f xs all.1)

  up_ins : (x : X) (l : List X) → AllByRecursion (λ y. e x y ≡ false) l → IsUp stops l → IsUp stops (ins stops x l)
  up_ins x [] apart up = (tt, tt)
  up_ins x (y ∷ ys) apart up = by (stops x y) refl (up_ins x ys apart.1 up.1)
    where
      by : (b : Bool) → stops x y ≡ b → IsUp stops (ins stops x ys) → IsUp stops (if b then x ∷ y ∷ ys else y ∷ ins stops x ys)
      by true s more = ((s, all_weaker _ (λ z. stops x z ≡ true) (λ z t. laws.chain x y z s t) ys up.0), up)
      by false s more = (all_ins (λ z. stops y z ≡ true) x ys (laws.one_way y x (laws.flips y x ∙ apart.0) ∙ ap not s) up.0, more)

  pub sort_up : (xs : List X) → IsDistinct e xs → IsUp stops (sort stops xs)
  sort_up [] d = tt
  sort_up (x ∷ xs) d = up_ins x (sort stops xs) (all_sort (λ y. e x y ≡ false) xs (IsDistinct-head e x xs d)) (sort_up xs (IsDistinct-tail e x xs d))

  distinct_ins : (x : X) (l : List X) → AllByRecursion (λ y. e x y ≡ false) l → IsDistinct e l → IsDistinct e (ins stops x l)
  unfolding IsDistinct
  distinct_ins x [] apart d = (tt, tt)
  distinct_ins x (y ∷ ys) apart d = by (stops x y) (distinct_ins x ys apart.1 d.1)
    where
      by : (b : Bool) → IsDistinct e (ins stops x ys) → IsDistinct e (if b then x ∷ y ∷ ys else y ∷ ins stops x ys)
      by true more = (apart, d)
      by false more = (all_ins (λ z. e y z ≡ false) x ys (laws.flips y x ∙ apart.0) d.0, more)

  pub sort_distinct : (xs : List X) → IsDistinct e xs → IsDistinct e (sort stops xs)
  sort_distinct [] d = d
  sort_distinct (x ∷ xs) d = distinct_ins x (sort stops xs) (all_sort (λ y. e x y ≡ false) xs (IsDistinct-head e x xs d)) (sort_distinct xs (IsDistinct-tail e x xs d))

  stops_first : (x : X) (l : List X) → AllByRecursion (λ y. stops x y ≡ true) l → ins stops x l ≡ x ∷ l
  stops_first x [] all = refl
  stops_first x (y ∷ ys) all = rw all.0

  -- a sorted list stays as it is
  pub sort_same : (l : List X) → IsUp stops l → sort stops l ≡ l
  sort_same [] up = refl
  sort_same (x ∷ xs) up = ap (ins stops x) (sort_same xs up.1) ∙ stops_first x xs up.0

  all_filter : (P : X → Type 0) (p : X → Bool) (l : List X) → AllByRecursion P l → AllByRecursion P (filter p l)
  all_filter P p [] all = tt
  all_filter P p (x ∷ xs) all = by (p x) (all_filter P p xs all.1)
    where
      by : (b : Bool) → AllByRecursion P (filter p xs) → AllByRecursion P (cond b (x ∷ filter p xs) (filter p xs))
      by true more = (all.0, more)
      by false more = more

  filter_ins : (p : X → Bool) (x : X) (l : List X) → IsUp stops l → filter p (ins stops x l) ≡ cond (p x) (ins stops x (filter p l)) (filter p l)
  filter_ins p x [] up = by (p x)
    where
      by : (b : Bool) → cond b (x ∷ []) [] ≡ cond b (x ∷ []) []
      by b = refl
  filter_ins p x (y ∷ ys) up = by (stops x y) refl (filter_ins p x ys up.1)
    where
      kept : (a b : Bool) → p x ≡ a → p y ≡ b → stops x y ≡ false → filter p (ins stops x ys) ≡ cond (p x) (ins stops x (filter p ys)) (filter p ys)
          → cond b (y ∷ filter p (ins stops x ys)) (filter p (ins stops x ys)) ≡ cond a (ins stops x (cond b (y ∷ filter p ys) (filter p ys))) (cond b (y ∷ filter p ys) (filter p ys))
      kept true true is there s more = rw (s, more, is)
      kept true false is there s more = rw (more, is)
      kept false true is there s more = rw (more, is)
      kept false false is there s more = rw (more, is)

      first : (b : Bool) → stops x y ≡ true → cond b (x ∷ filter p (y ∷ ys)) (filter p (y ∷ ys)) ≡ cond b (ins stops x (filter p (y ∷ ys))) (filter p (y ∷ ys))
      first true s = sym (stops_first x (filter p (y ∷ ys)) (all_filter (λ z. stops x z ≡ true) p (y ∷ ys) (s, all_weaker _ (λ z. stops x z ≡ true) (λ z t. laws.chain x y z s t) ys up.0)))
      first false s = refl

      by : (b : Bool) → stops x y ≡ b → filter p (ins stops x ys) ≡ cond (p x) (ins stops x (filter p ys)) (filter p ys)
          → filter p (ins stops x (y ∷ ys)) ≡ cond (p x) (ins stops x (filter p (y ∷ ys))) (filter p (y ∷ ys))
      by true s more = rw s (first (p x) s)
      by false s more = rw s (kept (p x) (p y) refl refl s more)

  -- a filter of what is put in order
  pub filter_sort : (p : X → Bool) (xs : List X) → IsDistinct e xs → filter p (sort stops xs) ≡ sort stops (filter p xs)
  filter_sort p [] d = refl
  filter_sort p (x ∷ xs) d =
      filter_ins p x (sort stops xs) (sort_up xs (IsDistinct-tail e x xs d)) ∙ by (p x) (filter_sort p xs (IsDistinct-tail e x xs d))
    where
      by : (b : Bool) → filter p (sort stops xs) ≡ sort stops (filter p xs)
          → cond b (ins stops x (filter p (sort stops xs))) (filter p (sort stops xs)) ≡ sort stops (cond b (x ∷ filter p xs) (filter p xs))
      by true same = ap (ins stops x) same
      by false same = same

-- a map that keeps the order
pub map_ins : {X : Type 0} (stops : X → X → Bool) (f : X → X) → ((x y : X) → stops (f x) (f y) ≡ stops x y) → (x : X) (l : List X) → map f (ins stops x l) ≡ ins stops (f x) (map f l)
map_ins stops f same x [] = refl
map_ins stops f same x (y ∷ ys) = by (stops x y) refl (map_ins stops f same x ys)
  where
    by : (b : Bool) → stops x y ≡ b → map f (ins stops x ys) ≡ ins stops (f x) (map f ys)
        → map f (if b then x ∷ y ∷ ys else y ∷ ins stops x ys) ≡ (if stops (f x) (f y) then f x ∷ f y ∷ map f ys else f y ∷ ins stops (f x) (map f ys))
    by true s more = rw (same x y, s)
    by false s more = rw (same x y, s) (ap (λ l. f y ∷ l) more)

pub map_sort : {X : Type 0} (stops : X → X → Bool) (f : X → X) → ((x y : X) → stops (f x) (f y) ≡ stops x y) → (l : List X) → map f (sort stops l) ≡ sort stops (map f l)
map_sort stops f same [] = refl
map_sort stops f same (x ∷ xs) = map_ins stops f same x (sort stops xs) ∙ ap (ins stops (f x)) (map_sort stops f same xs)
