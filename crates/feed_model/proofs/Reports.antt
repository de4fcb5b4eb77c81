-- The active releases, as the records show them.
use Rattle.std.proofs.Common.{◌≡◌, ◌≢◌, ◌<◌, ◌≤ℤ◌, ℕ, ℤ, List, length, Option, Some, None, slice_get, refl, sym, ◌∙◌, ap, subst, arith}
use Rattle.std.proofs.lemmas.Int.{ints}
use Rattle.feed_names.specs.ReleaseName.{Name}
use Rattle.feed_model.specs.declared.state.State.TheVariants.{Active}
use Rattle.feed_model.specs.History.{History, IsFile, IsGood, IsActive, IsPassed, Reports}
use Rattle.feed_model.specs.Content.{Record, Content, record_of, byte_in, IsState, IsContentWithin}
use Rattle.feed_model.proofs.Names.{name_by}
use Rattle.feed_model.proofs.Lookups.{name-record_of, record_of-own}
use Rattle.feed_model.proofs.Tests.{of_record, record_good, not_passed_active}

active_by : {most : ℕ} (c : Content) (h : History) (r : Record) → IsContentWithin most c h → record_of c r.name ≡ Some r → r.state ≡ Active → IsActive h r.name
active_by c h r is found active = subst (IsState h r.name) active (of_record c h r.name r is found).state

-- an active record of the package
pub report_some : {most : ℕ} (c : Content) (h : History) (package_name : List ℕ) (r : Record) → IsContentWithin most c h → record_of c r.name ≡ Some r → r.state ≡ Active
    → r.name.package_name ≡ package_name
    → Reports h package_name (Some r.name)
report_some c h package_name r is found active same = (same, active_by c h r is found active)

-- no active record of the package
pub report_none : {most : ℕ} (c : Content) (h : History) (package_name : List ℕ) → IsContentWithin most c h
    → ((a : Record) → record_of c a.name ≡ Some a → a.state ≡ Active → a.name.package_name ≢ package_name)
    → Reports h package_name None
report_none c h package_name is none = λ m same good. latest m same good (λ p. latest p.0 (sym p.2.0 ∙ same) p.1.0 (not_passed_active h p.0 p.1))
  where
    latest : (m : Name) → m.package_name ≡ package_name → IsGood h m → ¬ (¬ (IsPassed h m))
    latest m same good free =
        let r = record_good c h is m good free in
        none r.0 (record_of-own c m r.0 r.1) r.2 (ap (λ (x : Name). x.package_name) (name-record_of c m r.0 r.1) ∙ same)

-- the bytes of a record that has all of them are its file
pub file_of_record : {most : ℕ} (c : Content) (h : History) (r : Record) (text : List ℕ) → IsContentWithin most c h → record_of c r.name ≡ Some r → length text ≡ r.size
    → ((place : ℕ) → place < r.size → byte_in r.parts place ≡ slice_get text place) → IsFile h r.name text
file_of_record c h r text is found len at =
    let x = of_record c h r.name r is found in
    (x.size ∙ ap Some (sym len), λ place lt. sym (x.bytes place) ∙ at place (omega arith))

same_day : (a b : ℤ) → a ≤ℤ b → b ≤ℤ a → a ≡ b
same_day a b le ge = grind (arith, ints)

-- two active releases of a package are one
pub active_one : (h : History) (m n : Name) → m.package_name ≡ n.package_name → IsActive h m → IsActive h n → m ≡ n
active_one h m n same a b = name_by m n same (same_day m.day n.day (b.1 m same a.0) (a.1 n (sym same) b.0))

-- a package has one report
pub reports_one : (h : History) (key : List ℕ) (o p : Option Name) → Reports h key o → Reports h key p → o ≡ p
reports_one h key None None x y = refl
reports_one h key None (Some n) x y = absurd (x n y.0 y.1.0)
reports_one h key (Some m) None x y = absurd (y m x.0 x.1.0)
reports_one h key (Some m) (Some n) x y = ap Some (active_one h m n (x.0 ∙ sym y.0) x.1 y.1)
