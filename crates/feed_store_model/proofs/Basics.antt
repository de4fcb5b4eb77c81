-- Tests, and numbers of trees that differ.
use Rattle.std.proofs.Common.{◌≡◌, ◌≢◌, ◌&&◌, ℕ, Bool, true, false, not, Some, refl, sym, ◌∙◌, arith}
use Rattle.std.proofs.lemmas.Bool.{not-true}
use Rattle.sqlite_sql.specs.Ops.{is_true, from_truth}

-- two tests that each pass if the other one does
pub same_test : (a b : Bool) → (a ≡ true → b ≡ true) → (b ≡ true → a ≡ true) → a ≡ b
same_test true b f g = sym (f refl)
same_test false true f g = g refl
same_test false false f g = refl

pub and_true : (b : Bool) → (b && true) ≡ b
and_true true = refl
and_true false = refl

-- a rule that nothing breaks
pub not_broken : (b : Bool) → (not b && true) ≡ true → b ≡ false
not_broken b h = not-true b (sym (and_true (not b)) ∙ h)

-- the first of two rules, where nothing breaks either
pub first_unbroken : (b c : Bool) → (not b && c) ≡ true → b ≡ false
first_unbroken false c h = refl
first_unbroken true c h = absurd (let e : false ≡ true = h in cc)

-- what a truth value is as a condition
pub held : (b : Bool) → is_true (from_truth (Some b)) ≡ b
held true = refl
held false = refl

pub zero_one : ◌≢◌ {A = ℕ} 0 1
zero_one e = omega arith

pub zero_three : ◌≢◌ {A = ℕ} 0 3
zero_three e = omega arith

pub one_zero : ◌≢◌ {A = ℕ} 1 0
one_zero e = omega arith

pub one_three : ◌≢◌ {A = ℕ} 1 3
one_three e = omega arith

pub three_zero : ◌≢◌ {A = ℕ} 3 0
three_zero e = omega arith

pub three_one : ◌≢◌ {A = ℕ} 3 1
three_one e = omega arith

pub zero_five : ◌≢◌ {A = ℕ} 0 5
zero_five e = omega arith

pub one_five : ◌≢◌ {A = ℕ} 1 5
one_five e = omega arith

pub three_five : ◌≢◌ {A = ℕ} 3 5
three_five e = omega arith

pub five_zero : ◌≢◌ {A = ℕ} 5 0
five_zero e = omega arith

pub five_one : ◌≢◌ {A = ℕ} 5 1
five_one e = omega arith

pub five_three : ◌≢◌ {A = ℕ} 5 3
five_three e = omega arith
