-- A text that is rejected is not a name.
use Rattle.std.proofs.Common.{◌≡◌, ℕ, ℤ, List, sym, ◌∙◌, subst}
use Rattle.feed_names.specs.ReleaseName.{Name, IsName, EndsInDate, IsPackageName, EndsInTxt}
use Rattle.feed_names.proofs.NameLemmas.{one_front, package_name-take}

pub no_ending : (text : List ℕ) → ((front : List ℕ) → ¬ (EndsInTxt text front)) → (n : Name) → ¬ (IsName text n)
no_ending text none n h = none h.front h.ends

pub no_date : (text front : List ℕ) → EndsInTxt text front → ((package_name : List ℕ) (day : ℤ) → ¬ (EndsInDate front package_name day)) → (n : Name) → ¬ (IsName text n)
no_date text front ends none n h =
    let same : h.front ≡ front = one_front text h.front front h.ends ends in
    none n.package_name n.day (subst (λ f. EndsInDate f n.package_name n.day) same h.is_dated)

pub no_package_name : (text front package_name : List ℕ) (day : ℤ) → EndsInTxt text front → EndsInDate front package_name day → ¬ (IsPackageName package_name) → (n : Name) → ¬ (IsName text n)
no_package_name text front package_name day ends dated none n h =
    let same : h.front ≡ front = one_front text h.front front h.ends ends in
    let mine : EndsInDate front n.package_name n.day = subst (λ f. EndsInDate f n.package_name n.day) same h.is_dated in
    none (subst IsPackageName (sym (package_name-take front n.package_name n.day mine) ∙ package_name-take front package_name day dated) h.is_package_name)
