-- A hit in a row that is looked at is counted, or its texts count and the release is not whole.
use Rattle.std.proofs.Common.{◌≡◌, ◌⊎◌, ◌<◌, ◌-◌, ◌∙◌, inl, inr, ℕ, zero, suc, Bool, true, false, List, [], ◌∷◌, Option, Some, None, ap, refl, sym, subst, arith, length, take}
use Rattle.std.specs.Prelude.{◌&&◌, if◌then◌else◌, nat_le}
use Rattle.std.specs.List.{Contains, filter_map}
use Rattle.std.proofs.lemmas.List.{take-map}
use Rattle.std.proofs.lemmas.Bool.Decides.{nat_tests}
use Rattle.feed_answer.specs.Answers.{answer_of, hit_by}
use Rattle.feed_answer.specs.Places.{hit_at}
use Rattle.feed_answer.specs.Today.{TodayValue}
use Rattle.feed_kbart.specs.HoldingsValue.{HoldingsValue}
use Rattle.feed_names.specs.ReleaseName.{Name}
use Rattle.node_site.specs.Held.{may_hold}
use Rattle.node_site.specs.Site as site_file
use Rattle.node_hits.specs.Hits.{ReleaseHitValue, library_hits}
use Rattle.node_hits.specs.Laws.{HitsAreFound}
use Rattle.node_hits.specs.Looks.{are_fitting, asked_places, fitting, found_in, hit_found, looks_at, looks_in, open_places, release_found, text_looks}
use Rattle.node_hits.specs.Searches.{SearchValue, compared}
use Rattle.node_hits.specs.declared.shares.Shares.{Shares}
use Rattle.node_hits.proofs.LooksPlaced.{in_rows, looks_placed}
use Rattle.node_hits.proofs.PlacesAsked.{first_is, later_is, none_in, one_of}

-- a hit is counted, or it is skipped
module _ (found : ReleaseHitValue) where
  abbrev IsFound : List ReleaseHitValue → Bool → Type 0
  IsFound hits fits = Contains hits found ⊎ ((0 < text_looks found.hit.row) × (fits ≡ false))

  behind : (other : ReleaseHitValue) (hits : List ReleaseHitValue) (fits : Bool) → IsFound hits fits → IsFound (other ∷ hits) fits
  behind other hits fits (inl has) = inl (later_is other hits found has)
  behind other hits fits (inr skipped) = inr skipped

  anyway : (hits : List ReleaseHitValue) (fits : Bool) → IsFound hits fits → IsFound hits false
  anyway hits fits (inl has) = inl has
  anyway hits fits (inr skipped) = inr (skipped.0, refl)

  found_or_skipped : (left : ℕ) (looks : List (Option ReleaseHitValue)) → Contains looks (Some found) → IsFound (fitting left looks) (are_fitting left looks)
  found_or_skipped left [] has = absurd (none_in (Some found) has)
  found_or_skipped left (None ∷ more) has = elim (one_of None more (Some found) has) [ inl same ↦ absurd (cc) | inr later ↦ found_or_skipped left more later ]
  found_or_skipped left (Some other ∷ more) has =
      go (nat_le (text_looks other.hit.row) left) refl (found_or_skipped (left - text_looks other.hit.row) more) (found_or_skipped left more)
      (one_of (Some other) more (Some found) has)
    where
      rest : ℕ
      rest = left - text_looks other.hit.row

      go : (b : Bool) → nat_le (text_looks other.hit.row) left ≡ b → (Contains more (Some found) → IsFound (fitting rest more) (are_fitting rest more))
          → (Contains more (Some found) → IsFound (fitting left more) (are_fitting left more))
          → (Some other ≡ Some found) ⊎ Contains more (Some found)
          → IsFound (if b then other ∷ fitting rest more else fitting left more) (if b then are_fitting rest more else false)
      go true is behind_it skipping (inl same) = let here : other ≡ found = cc in
          inl (subst (λ (x : ReleaseHitValue). Contains (x ∷ fitting rest more) found) (sym here) (first_is found (fitting rest more)))
      go true is behind_it skipping (inr later) = behind other (fitting rest more) (are_fitting rest more) (behind_it later)
      go false is behind_it skipping (inl same) =
          let here : other ≡ found = cc in
          let long : 0 < text_looks other.hit.row = (let test = is in grind (arith, nat_tests, test)) in
          inr (subst (λ (x : ReleaseHitValue). 0 < text_looks x.hit.row) here long, refl)
      go false is behind_it skipping (inr later) = anyway (fitting left more) (are_fitting left more) (skipping later)

and_false : (a b : Bool) → b ≡ false → (a && b) ≡ false
and_false true b is = is
and_false false b is = refl

pub hits_are_found : HitsAreFound
hits_are_found shares site today search name rows found has =
    elim (found_or_skipped found shares.texts (looks_in shares site today search name rows) has) [
      | inl counted ↦ inl counted
      | inr skipped ↦ inr (
        skipped.0,
        and_false (nat_le (length (open_places site name search.query rows)) shares.rows) (are_fitting shares.texts (looks_in shares site today search name rows)) skipped.1,
      )
    ]

-- ---- a hit that is counted is one of the core

fitting_has : (left : ℕ) (looks : List (Option ReleaseHitValue)) (found : ReleaseHitValue) → Contains (fitting left looks) found → Contains (found_in looks) found
fitting_has left [] found has = has
fitting_has left (None ∷ more) found has = fitting_has left more found has
fitting_has left (Some other ∷ more) found has =
    go (nat_le (text_looks other.hit.row) left) (fitting_has (left - text_looks other.hit.row) more found) (fitting_has left more found) has
  where
    rest : ℕ
    rest = left - text_looks other.hit.row

    first : (Contains (fitting rest more) found → Contains (found_in more) found) → (other ≡ found) ⊎ Contains (fitting rest more) found → Contains (other ∷ found_in more) found
    first behind_it (inl same) = subst (λ (x : ReleaseHitValue). Contains (x ∷ found_in more) found) (sym same) (first_is found (found_in more))
    first behind_it (inr later) = later_is other (found_in more) found (behind_it later)

    go : (b : Bool) → (Contains (fitting rest more) found → Contains (found_in more) found) → (Contains (fitting left more) found → Contains (found_in more) found)
        → Contains (if b then other ∷ fitting rest more else fitting left more) found → Contains (other ∷ found_in more) found
    go true behind_it skipping has = first behind_it (one_of other (fitting rest more) found has)
    go false behind_it skipping has = later_is other (found_in more) found (skipping has)

front_has : (n : ℕ) (looks : List (Option ReleaseHitValue)) (found : ReleaseHitValue) → Contains (found_in (take n looks)) found → Contains (found_in looks) found
front_has zero looks found has = absurd (none_in found has)
front_has (suc n) [] found has = has
front_has (suc n) (None ∷ more) found has = front_has n more found has
front_has (suc n) (Some other ∷ more) found has = go (front_has n more found) (one_of other (found_in (take n more)) found has)
  where
    go : (Contains (found_in (take n more)) found → Contains (found_in more) found) → (other ≡ found) ⊎ Contains (found_in (take n more)) found
        → Contains (other ∷ found_in more) found
    go behind_it (inl same) = subst (λ (x : ReleaseHitValue). Contains (x ∷ found_in more) found) (sym same) (first_is found (found_in more))
    go behind_it (inr later) = later_is other (found_in more) found (behind_it later)

pub hit_answers : (site : site_file.SiteValue) (today : TodayValue) (search : SearchValue) (name : Name) (shares : Shares) (holdings : HoldingsValue) (found : ReleaseHitValue)
    → Contains (release_found shares site today search name holdings.rows).hits found
    → Contains (library_hits site today search name (answer_of holdings (compared search))) found
unfolding answer_of
hit_answers site today search name shares holdings found has =
    go (may_hold site name.package_name)
    (front_has shares.rows (looks_at site today search name holdings.rows (open_places site name search.query holdings.rows)) found
    (subst (λ looks. Contains (found_in looks) found)
    (sym (take-map (λ place. hit_found site today search name (hit_at (compared search) holdings.rows place)) shares.rows (open_places site name search.query holdings.rows)))
    (fitting_has shares.texts (looks_in shares site today search name holdings.rows) found has)))
  where
    go : (b : Bool) → Contains (found_in (looks_at site today search name holdings.rows (if b then asked_places search.query holdings.rows else []))) found
        → Contains (library_hits site today search name (filter_map (hit_by (compared search)) holdings.rows)) found
    go true has = subst (λ (hits : List ReleaseHitValue). Contains hits found)
        (ap found_in (looks_placed site today search name holdings.rows) ∙ in_rows site today search name holdings.rows) has
    go false has = absurd (none_in found has)
