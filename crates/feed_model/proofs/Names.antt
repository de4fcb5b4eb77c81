-- Tests on names.
use Rattle.std.proofs.Common.{◌≡◌, ◌≢◌, ℤ, ◌<ℤ◌, ◌≤ℤ◌, Bool, true, false, ◌==◌, ◌⊎◌, inl, inr, refl, sym, ap, subst, arith, int_lt}
use Rattle.std.specs.Bool.{Decides}
use Rattle.std.specs.Ordering.{int_eq}
use Rattle.std.specs.Cmp.{IsEquivalence}
use Rattle.std.specs.Cmp.Lexicographic.{pointwise, bytes_decides}
use Rattle.std.proofs.lemmas.Bool.Decides.{Decides-and, Decides-like, Decides-int_eq, not_from_Decides}
use Rattle.std.proofs.lemmas.Int.{ints}
use Rattle.feed_names.specs.ReleaseName.{Name, name_eq, IsEarlier}
use Rattle.feed_model.specs.Change.{is_earlier}

-- two releases of one package with one day are one
pub name_by : (m n : Name) → m.package_name ≡ n.package_name → m.day ≡ n.day → m ≡ n
name_by m n same day = λ i. record { package_name = same i; day = day i }

name_decides : (m n : Name) → Decides (name_eq m n) (m ≡ n)
name_decides m n = Decides-like (name_eq m n) (λ e. name_by m n e.0 e.1) (λ e. (ap (λ (x : Name). x.package_name) e, ap (λ (x : Name). x.day) e))
    (Decides-and (pointwise ◌==◌ m.package_name n.package_name) (int_eq m.day n.day) (bytes_decides m.package_name n.package_name) (Decides-int_eq m.day n.day))

pub name_is : (m n : Name) → name_eq m n ≡ true → m ≡ n
name_is m n e = (name_decides m n).0 e

pub name_self : (n : Name) → name_eq n n ≡ true
name_self n = (name_decides n n).1 refl

pub name_not : (m n : Name) → name_eq m n ≡ false → m ≢ n
name_not m n e = not_from_Decides (name_eq m n) (name_decides m n) e

pub name_apart : (m n : Name) → m ≢ n → name_eq m n ≡ false
name_apart m n apart = by (name_eq m n) refl
  where
    by : (b : Bool) → name_eq m n ≡ b → b ≡ false
    by true e = absurd (apart (name_is m n e))
    by false e = refl

pub name_cases : (m n : Name) → (m ≡ n) ⊎ (m ≢ n)
name_cases m n = by (name_eq m n) refl
  where
    by : (b : Bool) → name_eq m n ≡ b → (m ≡ n) ⊎ (m ≢ n)
    by true e = inl (name_is m n e)
    by false e = inr (name_not m n e)

pub package_name_cases : (m n : Name) → (m.package_name ≡ n.package_name) ⊎ (m.package_name ≢ n.package_name)
package_name_cases m n = by (pointwise ◌==◌ m.package_name n.package_name) refl
  where
    by : (b : Bool) → pointwise ◌==◌ m.package_name n.package_name ≡ b → (m.package_name ≡ n.package_name) ⊎ (m.package_name ≢ n.package_name)
    by true e = inl ((bytes_decides m.package_name n.package_name).0 e)
    by false e = inr (not_from_Decides (pointwise ◌==◌ m.package_name n.package_name) (bytes_decides m.package_name n.package_name) e)

pub day_cases : (a b : ℤ) → (a ≤ℤ b) ⊎ (b <ℤ a)
day_cases a b = grind (arith, ints)

day_decides : (a b : ℤ) → Decides (int_lt a b) (a <ℤ b)
day_decides a b = (λ e. grind (arith, ints), λ lt. grind (arith, ints))

earlier_decides : (m n : Name) → Decides (is_earlier m n) (IsEarlier m n)
earlier_decides m n = Decides-and (pointwise ◌==◌ m.package_name n.package_name) (int_lt m.day n.day) (bytes_decides m.package_name n.package_name) (day_decides m.day n.day)

pub earlier_is : (m n : Name) → is_earlier m n ≡ true → IsEarlier m n
earlier_is m n e = (earlier_decides m n).0 e

pub earlier_not : (m n : Name) → is_earlier m n ≡ false → ¬ (IsEarlier m n)
earlier_not m n e = not_from_Decides (is_earlier m n) (earlier_decides m n) e

same_test : (a b : Bool) → (a ≡ true → b ≡ true) → (b ≡ true → a ≡ true) → a ≡ b
same_test true b f g = sym (f refl)
same_test false true f g = g refl
same_test false false f g = refl

pub name_laws : IsEquivalence name_eq
name_laws = record { refl = name_self; symm = symm; congr = congr }
  where
    turn : (x y : Name) → name_eq x y ≡ true → name_eq y x ≡ true
    turn x y e = subst (λ (z : Name). name_eq z x ≡ true) (name_is x y e) (name_self x)

    symm : (x y : Name) → name_eq x y ≡ name_eq y x
    symm x y = same_test (name_eq x y) (name_eq y x) (turn x y) (turn y x)

    congr : (x y z : Name) → name_eq x y ≡ true → name_eq x z ≡ name_eq y z
    congr x y z e = ap (λ w. name_eq w z) (name_is x y e)
