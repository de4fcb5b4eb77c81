-- The history, as the records show it.
use Rattle.std.proofs.Common.{◌≡◌, ◌<◌, ℕ, suc, ◌<ℤ◌, ◌≤ℤ◌, List, [], ◌∷◌, length, Option}
use Rattle.std.proofs.Common.{Some, None, IsSome, slice_get, MatchOption, refl, sym, ◌∙◌, subst, arith}
use Rattle.std.proofs.lemmas.Int.{ints}
use Rattle.feed_names.specs.ReleaseName.{Name, IsEarlier}
use Rattle.feed_model.specs.declared.state.State.{State}
use Rattle.feed_model.specs.declared.state.State.TheVariants.{Staged, Broken, Active}
use Rattle.feed_model.specs.File.{fault_of}
use Rattle.feed_model.specs.History.{History, IsFile, IsGood, IsBad, IsActive, IsPassed, IsHeld}
use Rattle.feed_model.specs.Content.{Record, Content, record_of, IsState, IsRecord, IsContentWithin}
use Rattle.feed_model.specs.Change.{NoneIsLater}
use Rattle.feed_model.specs.Handles.{HasLaterActive}
use Rattle.feed_model.proofs.Lookups.{name-record_of, record_of-own}

pub same_at : (xs ys : List ℕ) → length xs ≡ length ys → ((place : ℕ) → place < length xs → slice_get xs place ≡ slice_get ys place) → xs ≡ ys
same_at [] [] e at = refl
same_at [] (y ∷ ys) e at = absurd (omega arith)
same_at (x ∷ xs) [] e at = absurd (omega arith)
same_at (x ∷ xs) (y ∷ ys) e at =
    let head : Some x ≡ Some y = at 0 (omega arith) in
    let rest : xs ≡ ys = same_at xs ys (omega arith) (λ place lt. at (suc place) (omega arith)) in
    cc

-- a release has one file
pub file_one : (h : History) (n : Name) (x y : List ℕ) → IsFile h n x → IsFile h n y → x ≡ y
file_one h n x y f g =
    let e : Some (length x) ≡ Some (length y) = sym f.0 ∙ g.0 in
    let len : length x ≡ length y = cc in
    same_at x y len (λ place lt. sym (f.1 place lt) ∙ g.1 place (omega arith))

pub good_not_bad : (h : History) (n : Name) → IsGood h n → IsBad h n → ⊥
good_not_bad h n g b = b.2 (subst (λ (t : List ℕ). fault_of t ≡ None) (file_one h n g.0 b.0 g.1 b.1) g.2)

pub not_passed_active : (h : History) (a : Name) → IsActive h a → IsPassed h a → ⊥
not_passed_active h a act p = let le : p.0.day ≤ℤ a.day = act.1 p.0 (sym p.2.0) p.1.0 in let lt : a.day <ℤ p.0.day = p.2.1 in absurd (omega (arith, ints))

-- of a good release that is held the record is active
pub state_good : (h : History) (n : Name) (s : State) → IsGood h n → IsState h n s → s ≡ Active
state_good h n Staged g w = absurd (w (g.0, g.1))
state_good h n Active g w = refl
state_good h n Broken g w = absurd (good_not_bad h n g w)

pub record_good : {most : ℕ} (c : Content) (h : History) → IsContentWithin most c h → (n : Name) → IsGood h n → ((IsPassed h n) → ⊥) → (x : Record) × (record_of c n ≡ Some x) × (x.state ≡ Active)
    × IsActive h n
record_good c h is n g ahead = by (record_of c n) refl (is.each n)
  where
    by : (o : Option Record) → record_of c n ≡ o → MatchOption o (¬ (IsHeld h n)) (IsRecord h n) → (x : Record) × (record_of c n ≡ Some x) × (x.state ≡ Active) × IsActive h n
    by None e out = absurd (out (subst IsSome (sym g.1.0) refl, ahead))
    by (Some x) e r = let s = state_good h n x.state g r.state in (x, e, s, subst (IsState h n) s r.state)

pub of_record : {most : ℕ} (c : Content) (h : History) (n : Name) (r : Record) → IsContentWithin most c h → record_of c n ≡ Some r → IsRecord h n r
of_record c h n r is found = let e = is.each n in rw found at e

pub not_held : {most : ℕ} (c : Content) (h : History) (n : Name) → IsContentWithin most c h → record_of c n ≡ None → ¬ (IsHeld h n)
not_held c h n is free = let e = is.each n in rw free at e

-- a later record that is active says that the release is passed
pub passed_by : {most : ℕ} (c : Content) (h : History) (n : Name) → IsContentWithin most c h → HasLaterActive c n → IsPassed h n
passed_by c h n is p = (p.0.name, subst (IsState h p.0.name) p.2 (of_record c h p.0.name p.0 is p.1).state, p.3)

-- and else it is not passed
pub not_passed_by : {most : ℕ} (c : Content) (h : History) (n : Name) → IsContentWithin most c h → NoneIsLater c n → ¬ (IsPassed h n)
not_passed_by c h n is free p =
    let r = record_good c h is p.0 p.1.0 (not_passed_active h p.0 p.1) in
    free r.0 (record_of-own c p.0 r.0 r.1) r.2 (subst (IsEarlier n) (sym (name-record_of c p.0 r.0 r.1)) p.2)
