-- Which wanted packages have a release.
use Rattle.std.proofs.Common.{◌≡◌, ◌≢◌, ◌<◌, ◌∙◌, ℕ, Bool, true, false, List, [], ◌∷◌, suc, Option, Some, None, length, get_or, refl, ap, sym, subst, inl, inr, arith}
use Rattle.std.specs.Prelude.{All, IfNone, IfSome, MatchBool, is_some}
use Rattle.std.specs.List.{HoldsAt, list_all}
use Rattle.std.specs.Str.{bytes_eq}
use Rattle.std.proofs.lemmas.Bool.{cases_Bool, false≢true}
use Rattle.std.proofs.lemmas.List.Folds.{Any-from_list_any, list_any_at, list_any_none}
use Rattle.std.proofs.lemmas.List.Sums.{AllPass-from_list_all}
use Rattle.std.proofs.lemmas.Slice.Eq.{bytes_eq-Decides}
use Rattle.feed_names.specs.ReleaseName.{Name}
use Rattle.feed_model.specs.History.{History, Reports}
use Rattle.feed_model.specs.Content.{Recorded, IsContent}
use Rattle.feed_model.proofs.Reports.{report_none, report_some}
use Rattle.feed_releases.specs.Actives.{ActiveValue, AreReported, HasActive}
use Rattle.node_service.specs.Wanted.{HasEach, HasRelease, LacksOne, has_package}

-- the active release is of the package
abbrev is_of : List ℕ → ActiveValue → Bool
is_of package_name active = bytes_eq active.name.package_name package_name

unequal : (xs ys : List ℕ) → xs ≢ ys → bytes_eq xs ys ≡ false
unequal xs ys differ = elim (cases_Bool (bytes_eq xs ys)) [
  | inl same ↦ absurd (differ ((bytes_eq-Decides xs ys).0 same))
  | inr other ↦ other
]

-- a package has an active release exactly if a search among them finds a place
pub found_is : (actives : List ActiveValue) (package_name : List ℕ) (found : Option ℕ) → IfSome found (λ at. at < length actives)
    → IfSome found (HoldsAt (λ active. active.name.package_name ≡ package_name) actives)
    → IfNone found (All (λ active. active.name.package_name ≢ package_name) actives) → is_some found ≡ has_package actives package_name
found_is actives package_name None within at none =
    sym (list_any_none (is_of package_name) actives (λ k d below. unequal (get_or actives k d).name.package_name package_name (none k d below)))
found_is [] package_name (Some k) within at none = absurd (omega arith)
found_is (a ∷ actives) package_name (Some k) within at none =
    sym (list_any_at (is_of package_name) (a ∷ actives) k a within ((bytes_eq-Decides (get_or (a ∷ actives) k a).name.package_name package_name).1 (at a)))

-- a package with an active release has one that the feed reports
has_release : (h : History) (actives : List ActiveValue) (package_name : List ℕ) → AreReported h actives → has_package actives package_name ≡ true
    → HasRelease h package_name
has_release h actives package_name reported has =
    let (k, a, below, here, same) = Any-from_list_any (is_of package_name) actives has in (
      a.name,
      subst (λ (name : List ℕ). Reports h name (Some a.name)) ((bytes_eq-Decides a.name.package_name package_name).0 same)
          (subst (λ (active : ActiveValue). Reports h active.name.package_name (Some active.name)) here (reported.each k a below).reports),
    )

has_active : (actives : List ActiveValue) (n : Name) → HasActive actives n → has_package actives n.package_name ≡ true
has_active [] n (k, below, is) = absurd (omega arith)
has_active (a ∷ actives) n (k, below, is) = list_any_at (is_of n.package_name) (a ∷ actives) k a below
    ((bytes_eq-Decides (get_or (a ∷ actives) k a).name.package_name n.package_name).1 (ap (λ (m : Name). m.package_name) (is a)))

-- the feed reports no release of a package without an active one
lacks_release : (r : Recorded) (h : History) (actives : List ActiveValue) (package_name : List ℕ) → IsContent r h → AreReported h actives
    → has_package actives package_name ≡ false → Reports h package_name None
lacks_release r h actives package_name is reported lacks = report_none r.content h package_name is (λ a own active same. false≢true (sym lacks
    ∙ subst (λ (name : List ℕ). has_package actives name ≡ true) same
    (has_active actives a.name (reported.every a.name.package_name a.name (report_some r.content h a.name.package_name a is own active refl)))))

lacks_one : (r : Recorded) (h : History) (actives : List ActiveValue) (wanted : List (List ℕ)) → IsContent r h → AreReported h actives
    → list_all (has_package actives) wanted ≡ false → LacksOne h wanted
lacks_one r h actives [] is reported lacks = absurd (false≢true (sym lacks))
lacks_one r h actives (first ∷ wanted) is reported lacks = elim (cases_Bool (has_package actives first)) [
  | inl has ↦
      let (package_name, (k, below, here), none) = lacks_one r h actives wanted is reported (rw has at lacks) in
      (package_name, (suc k, omega arith, here), none)
  | inr none ↦ (first, (0, omega arith, refl), lacks_release r h actives first is reported none)
]

-- each wanted package is among the active releases, or the feed reports none of one
pub each_or_lacks : (r : Recorded) (h : History) (actives : List ActiveValue) (wanted : List (List ℕ)) (each : Bool) → IsContent r h → AreReported h actives
    → each ≡ list_all (has_package actives) wanted → MatchBool each (HasEach h wanted) (LacksOne h wanted)
each_or_lacks r h actives wanted true is reported same =
    λ k d below. has_release h actives (get_or wanted k d) reported (AllPass-from_list_all (has_package actives) wanted (sym same) k d below)
each_or_lacks r h actives wanted false is reported same = lacks_one r h actives wanted is reported (sym same)
