-- The search for a package among active releases that are in order.
use Rattle.std.proofs.Common.{◌≡◌, ◌≢◌, ◌⊎◌, inl, inr, nat_lt, ◌<◌, ◌≤◌, ◌+◌, ℕ, zero, suc, Bool, true, false, List, [], ◌∷◌, length, get_or}
use Rattle.std.proofs.Common.{Ordering, Less, Equal, Greater, refl, sym, ap, ◌∙◌, arith}
use Rattle.std.specs.List.Sorted.{IsNonDecreasingBy}
use Rattle.std.specs.Ordering.{is_eq, nat_cmp, ordering_index}
use Rattle.std.specs.Cmp.Lexicographic.{bytes_decides, slice_cmp}
use Rattle.std.proofs.lemmas.Bool.Decides.{nat_tests}
use Rattle.std.proofs.lemmas.Cmp.{nat_list_cmp_total, tied_itself}
use Rattle.std.proofs.lemmas.List.Sorted.{searchable_from_sorted}
use Rattle.std.proofs.lemmas.Map.Text.{is_eq-slice_cmp}
use Rattle.feed_releases.specs.Actives.{ActiveValue, AreInOrder, is_package_before}
use Rattle.feed_releases.proofs.Inserting.{late_at}

abbrev text_cmp : List ℕ → List ℕ → Ordering
text_cmp = slice_cmp nat_cmp

-- how the package of a release compares with this one
abbrev pub by_package : List ℕ → ActiveValue → Ordering
by_package package_name active = text_cmp active.name.package_name package_name

far : (xs : List ActiveValue) (i j : ℕ) (d : ActiveValue) → AreInOrder xs → i < j → j < length xs → is_package_before (get_or xs j d) (get_or xs i d) ≡ false
far [] i j d order less lt = absurd (omega arith)
far (x ∷ xs) i zero d order less lt = absurd (omega arith)
far (x ∷ xs) zero (suc j) d order less lt = late_at x xs j d order.0 (omega arith)
far (x ∷ xs) (suc i) (suc j) d order less lt = far xs i j d order.1 (omega arith) (omega arith)

pub searchable : (xs : List ActiveValue) (package_name : List ℕ) → AreInOrder xs → IsNonDecreasingBy (λ a. ordering_index (by_package package_name a)) xs
searchable xs package_name order =
    searchable_from_sorted nat_list_cmp_total (λ (a : ActiveValue). a.name.package_name) xs package_name (λ k d low lt. far xs k (k + 1) d order (omega arith) lt)

-- a place is in front of another one, or not
pub side : (k i : ℕ) → (k < i) ⊎ (i ≤ k)
side k i = by (nat_lt k i) refl
  where
    by : (b : Bool) → nat_lt k i ≡ b → (k < i) ⊎ (i ≤ k)
    by true e = inl (grind (arith, nat_tests))
    by false e = inr (grind (arith, nat_tests))

-- ---- equal packages

pub same_package : (s t : List ℕ) → text_cmp s t ≡ Equal → s ≡ t
same_package s t h = (bytes_decides s t).0 (sym (is_eq-slice_cmp s t) ∙ ap is_eq h)

pub differs_below : (s t : List ℕ) → text_cmp s t ≡ Less → s ≢ t
differs_below s t h e = let g : Less ≡ Equal = sym h ∙ ap (λ u. text_cmp u t) e ∙ tied_itself nat_list_cmp_total t in absurd cc

pub differs_above : (s t : List ℕ) → text_cmp s t ≡ Greater → s ≢ t
differs_above s t h e = let g : Greater ≡ Equal = sym h ∙ ap (λ u. text_cmp u t) e ∙ tied_itself nat_list_cmp_total t in absurd cc
