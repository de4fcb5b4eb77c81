-- The hits of a search in all releases together are bounded, and so are their texts.
use Rattle.std.proofs.Common.{◌≡◌, ◌≤◌, ◌+◌, ◌-◌, ◌*◌, ◌∙◌, ℕ, suc, Bool, true, false, cond, List, [], ◌∷◌, ◌++◌, Option, Some, None, refl, sym, subst, arith, length-append, length-take}
use Rattle.std.specs.Prelude.{if◌then◌else◌, length, map, min, nat_le, nat_lt, sum_by, take}
use Rattle.std.proofs.Math.Nat.{mul-add}
use Rattle.std.proofs.lemmas.Bool.Decides.{nat_tests}
use Rattle.std.proofs.lemmas.List.{length-map}
use Rattle.std.proofs.lemmas.List.Sums.{sum_by-append, sum_by-cons}
use Rattle.feed_answer.specs.Places.{hit_at}
use Rattle.feed_answer.specs.Today.{TodayValue}
use Rattle.feed_kbart.specs.RowValue.{RowValue}
use Rattle.feed_names.specs.ReleaseName.{Name}
use Rattle.node_site.specs.Site as site_file
use Rattle.node_hits.specs.Hits.{ReleaseHitValue}
use Rattle.node_hits.specs.Laws.{SearchIsBounded, counts_of}
use Rattle.node_hits.specs.Looks.{FoundValue, fitting, hit_found, looks_in, open_places, release_found, text_looks}
use Rattle.node_hits.specs.Searches.{SearchValue, compared}
use Rattle.node_hits.specs.Shares.{having_rows, shares_of}
use Rattle.node_hits.specs.Tallies.{counted}
use Rattle.node_hits.specs.declared.shares.Shares.{Shares}
use Rattle.node_hits.proofs.ShareBounds.{each_has_share, equal_fits}

abbrev looks_of : ReleaseHitValue → ℕ
looks_of found = text_looks found.hit.row

-- ---- the hits of a release

few_fitting : (left : ℕ) (looks : List (Option ReleaseHitValue)) → length (fitting left looks) ≤ length looks
few_fitting left [] = omega arith
few_fitting left (None ∷ more) = let rest = few_fitting left more in omega (arith, rest)
few_fitting left (Some found ∷ more) = go (nat_le (looks_of found) left) (few_fitting (left - looks_of found) more) (few_fitting left more)
  where
    go : (b : Bool) → length (fitting (left - looks_of found) more) ≤ length more → length (fitting left more) ≤ length more
        → length (if b then found ∷ fitting (left - looks_of found) more else fitting left more) ≤ suc (length more)
    go true behind skipping = omega (arith, behind)
    go false behind skipping = omega (arith, skipping)

short_fitting : (left : ℕ) (looks : List (Option ReleaseHitValue)) → sum_by looks_of (fitting left looks) ≤ left
short_fitting left [] = omega arith
short_fitting left (None ∷ more) = short_fitting left more
short_fitting left (Some found ∷ more) = go (nat_le (looks_of found) left) refl (short_fitting (left - looks_of found) more) (short_fitting left more)
  where
    go : (b : Bool) → nat_le (looks_of found) left ≡ b → sum_by looks_of (fitting (left - looks_of found) more) ≤ left - looks_of found
        → sum_by looks_of (fitting left more) ≤ left
        → sum_by looks_of (if b then found ∷ fitting (left - looks_of found) more else fitting left more) ≤ left
    go true is behind skipping =
        let fits : looks_of found ≤ left = (let test = is in grind (arith, nat_tests, test)) in
        let all = sum_by-cons looks_of found (fitting (left - looks_of found) more) in
        omega (arith, fits, behind, all)
    go false is behind skipping = skipping

module _ (shares : Shares) (site : site_file.SiteValue) (today : TodayValue) (search : SearchValue) where
  abbrev Release : Type 0
  Release = Name × List RowValue

  abbrev count_in : Release → ℕ
  count_in release = length (open_places site release.0 search.query release.1)

  abbrev hits_in : Release → List ReleaseHitValue
  hits_in release = (release_found shares site today search release.0 release.1).hits

  looks_long : (release : Release) → length (looks_in shares site today search release.0 release.1) ≡ min shares.rows (count_in release)
  looks_long release =
      length-map (take shares.rows (open_places site release.0 search.query release.1))
      (λ place. hit_found site today search release.0 (hit_at (compared search) release.1 place))
      ∙ length-take shares.rows (open_places site release.0 search.query release.1)

  few_in : (release : Release) → length (hits_in release) ≤ min shares.rows (count_in release)
  few_in release =
      let few = few_fitting shares.texts (looks_in shares site today search release.0 release.1) in
      let long = looks_long release in
      omega (arith, few, long)

  -- without a row there is no text
  short_in : (release : Release) → sum_by looks_of (hits_in release) ≤ shares.texts * cond (nat_lt 0 (count_in release)) 1 0
  short_in release =
      go (nat_lt 0 (count_in release)) refl (looks_in shares site today search release.0 release.1) (looks_long release)
      (short_fitting shares.texts (looks_in shares site today search release.0 release.1))
    where
      go : (b : Bool) → nat_lt 0 (count_in release) ≡ b → (looks : List (Option ReleaseHitValue)) → length looks ≡ min shares.rows (count_in release)
          → sum_by looks_of (fitting shares.texts looks) ≤ shares.texts → sum_by looks_of (fitting shares.texts looks) ≤ shares.texts * cond b 1 0
      go true is looks long short = omega (arith, short)
      go false is [] long short = omega arith
      go false is (look ∷ looks) long short =
          let none : count_in release ≡ 0 = (let test = is in grind (arith, nat_tests, test)) in
          absurd (omega (arith, long, none))

  -- ---- all releases

  abbrev founds : List Release → List FoundValue
  founds releases = map (λ release. release_found shares site today search release.0 release.1) releases

  few_hits : (releases : List Release) → length (counted (founds releases)) ≤ sum_by (λ rows. min shares.rows rows) (counts_of site search releases)
  few_hits [] = omega arith
  few_hits (release ∷ releases) =
      let first = few_in release in
      let both = length-append (hits_in release) (counted (founds releases)) in
      let all = sum_by-cons (λ rows. min shares.rows rows) (count_in release) (counts_of site search releases) in
      let rest = few_hits releases in
      omega (arith, first, both, all, rest)

  short_texts : (releases : List Release) → sum_by looks_of (counted (founds releases)) ≤ shares.texts * having_rows (counts_of site search releases)
  short_texts [] = omega arith
  short_texts (release ∷ releases) =
      let first = short_in release in
      let both = sum_by-append looks_of (hits_in release) (counted (founds releases)) in
      let counts : List ℕ = counts_of site search releases in
      let one : ℕ = cond (nat_lt 0 (count_in release)) 1 0 in
      let all : having_rows (count_in release ∷ counts) ≡ one + having_rows counts = sum_by-cons (λ n. cond (nat_lt 0 n) 1 0) (count_in release) counts in
      let rest = short_texts releases in
      let times : shares.texts * (one + having_rows counts) ≡ shares.texts * one + shares.texts * having_rows counts = mul-add shares.texts one (having_rows counts) in
      subst (λ n. sum_by looks_of (hits_in release ++ counted (founds releases)) ≤ shares.texts * n) (sym all) (omega (arith, first, both, rest, times))

pub search_is_bounded : SearchIsBounded
search_is_bounded site today search releases =
    let counts : List ℕ = counts_of site search releases in
    let shares : Shares = shares_of counts in
    let few = few_hits shares site today search releases in
    let short = short_texts shares site today search releases in
    let looked = (each_has_share counts).bounded in
    let fits = equal_fits (having_rows counts) in
    record { hits = omega (arith, few, looked); texts = omega (arith, short, fits) }
