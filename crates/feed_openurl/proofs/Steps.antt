-- One more element of a list that a loop goes over.
use Rattle.std.proofs.Common.{◌≡◌, ◌<◌, ◌+◌, ℕ, Bool, true, false, List, [], ◌∷◌, ◌++◌, length, drop, get_or, map, Option, Some, None, refl, sym, ap, ◌∙◌, append_assoc}
use Rattle.std.specs.Prelude.{filter, fold}
use Rattle.std.specs.List.{concat, cons_option, filter_map, flat_map}
use Rattle.std.proofs.lemmas.List.{drop_more}

module _ {A B : Type 0} (f : A → Option B) (xs : List A) (i : ℕ) (x : A) where
  next : (o : Option B) → i < length xs → x ≡ get_or xs i x → f x ≡ o → cons_option o (filter_map f (drop (i + 1) xs)) ≡ filter_map f (drop i xs)
  next o within at is =
      ap (λ a. cons_option a (filter_map f (drop (i + 1) xs))) (sym is ∙ ap f at) ∙ ap (filter_map f) (sym (drop_more xs i x within))

  -- an element that is kept, and one that is not
  pub kept_next : (old new all : List B) (y : B) → i < length xs → x ≡ get_or xs i x → f x ≡ Some y → new ≡ old ++ y ∷ []
      → old ++ filter_map f (drop i xs) ≡ all → new ++ filter_map f (drop (i + 1) xs) ≡ all
  kept_next old new all y within at is pushed was =
      ap (λ l. l ++ filter_map f (drop (i + 1) xs)) pushed
      ∙ append_assoc old (y ∷ []) (filter_map f (drop (i + 1) xs))
      ∙ ap (λ l. old ++ l) (next (Some y) within at is)
      ∙ was

  pub left_next : (old new all : List B) → i < length xs → x ≡ get_or xs i x → f x ≡ None → new ≡ old
      → old ++ filter_map f (drop i xs) ≡ all → new ++ filter_map f (drop (i + 1) xs) ≡ all
  left_next old new all within at is same was =
      ap (λ l. l ++ filter_map f (drop (i + 1) xs)) same ∙ ap (λ l. old ++ l) (next None within at is) ∙ was

-- the list of an element that is appended
pub flat_next : {A B : Type 0} (g : A → List B) (xs : List A) (i : ℕ) (x : A) (old new all : List B) → i < length xs → x ≡ get_or xs i x
    → new ≡ old ++ g x → old ++ flat_map g (drop i xs) ≡ all → new ++ flat_map g (drop (i + 1) xs) ≡ all
flat_next g xs i x old new all within at written was =
    ap (λ l. l ++ flat_map g (drop (i + 1) xs)) written
    ∙ append_assoc old (g x) (flat_map g (drop (i + 1) xs))
    ∙ ap (λ l. old ++ l) (sym (ap (flat_map g) (drop_more xs i x within) ∙ ap (λ a. g a ++ flat_map g (drop (i + 1) xs)) (sym at)))
    ∙ was

-- a text that is appended
pub text_next : (xs : List (List ℕ)) (i : ℕ) (x old new all : List ℕ) → i < length xs → x ≡ get_or xs i x → new ≡ old ++ x
    → old ++ concat (drop i xs) ≡ all → new ++ concat (drop (i + 1) xs) ≡ all
text_next xs i x old new all within at written was =
    ap (λ l. l ++ concat (drop (i + 1) xs)) written
    ∙ append_assoc old x (concat (drop (i + 1) xs))
    ∙ ap (λ t. old ++ (t ++ concat (drop (i + 1) xs))) at
    ∙ ap (λ l. old ++ concat l) (sym (drop_more xs i x within))
    ∙ was

-- one element more of a fold
pub fold_next : {A B : Type 0} (f : B → A → B) (xs : List A) (i : ℕ) (x : A) (old new all : B) → i < length xs → x ≡ get_or xs i x → new ≡ f old x
    → fold f old (drop i xs) ≡ all → fold f new (drop (i + 1) xs) ≡ all
fold_next f xs i x old new all within at is was =
    ap (λ s. fold f s (drop (i + 1) xs)) (is ∙ ap (f old) at) ∙ ap (fold f old) (sym (drop_more xs i x within)) ∙ was

-- an element that passes a test, and one that does not
module _ {A B : Type 0} (p : B → Bool) (f : A → B) (xs : List A) (i : ℕ) (x : A) where
  at_place : i < length xs → x ≡ get_or xs i x → map f (drop i xs) ≡ f x ∷ map f (drop (i + 1) xs)
  at_place within at = ap (map f) (drop_more xs i x within) ∙ ap (λ a. f a ∷ map f (drop (i + 1) xs)) (sym at)

  passes : (y : B) (ys : List B) → p y ≡ true → filter p (y ∷ ys) ≡ y ∷ filter p ys
  passes y ys is = rw is refl

  fails : (y : B) (ys : List B) → p y ≡ false → filter p (y ∷ ys) ≡ filter p ys
  fails y ys is = rw is refl

  pub passed_next : (old new all : List B) → i < length xs → x ≡ get_or xs i x → p (f x) ≡ true → new ≡ old ++ f x ∷ []
      → old ++ filter p (map f (drop i xs)) ≡ all → new ++ filter p (map f (drop (i + 1) xs)) ≡ all
  passed_next old new all within at is pushed was =
      ap (λ l. l ++ filter p (map f (drop (i + 1) xs))) pushed
      ∙ append_assoc old (f x ∷ []) (filter p (map f (drop (i + 1) xs)))
      ∙ ap (λ l. old ++ l) (sym (ap (filter p) (at_place within at) ∙ passes (f x) (map f (drop (i + 1) xs)) is))
      ∙ was

  pub failed_next : (old new all : List B) → i < length xs → x ≡ get_or xs i x → p (f x) ≡ false → new ≡ old
      → old ++ filter p (map f (drop i xs)) ≡ all → new ++ filter p (map f (drop (i + 1) xs)) ≡ all
  failed_next old new all within at is same was =
      ap (λ l. l ++ filter p (map f (drop (i + 1) xs))) same
      ∙ ap (λ l. old ++ l) (sym (ap (filter p) (at_place within at) ∙ fails (f x) (map f (drop (i + 1) xs)) is))
      ∙ was

-- an element that is mapped
pub mapped_next : {A B : Type 0} (f : A → B) (xs : List A) (i : ℕ) (x : A) (old new all : List B) → i < length xs → x ≡ get_or xs i x
    → new ≡ old ++ f x ∷ [] → old ++ map f (drop i xs) ≡ all → new ++ map f (drop (i + 1) xs) ≡ all
mapped_next f xs i x old new all within at pushed was =
    ap (λ l. l ++ map f (drop (i + 1) xs)) pushed
    ∙ append_assoc old (f x ∷ []) (map f (drop (i + 1) xs))
    ∙ ap (λ l. old ++ l) (sym (ap (map f) (drop_more xs i x within) ∙ ap (λ a. f a ∷ map f (drop (i + 1) xs)) (sym at)))
    ∙ was
