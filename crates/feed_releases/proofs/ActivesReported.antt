-- The active releases in memory are those that a feed reports, with the holdings of their whole files.
use Rattle.std.proofs.Common.{◌≡◌, ◌<◌, ℕ, zero, suc, List, [], ◌∷◌, length, get_or, Option, Some, None, refl, arith, inl, inr}
use Rattle.std.specs.Prelude.{All, Result, Ok, Err, IfOk, OnOk}
use Rattle.std.specs.List.{filter_map, AllByRecursion}
use Rattle.std.proofs.lemmas.Bool.{cases_Bool}
use Rattle.std.proofs.lemmas.List.Elements.{All-from_recursion}
use Rattle.feed_kbart.specs.HoldingsValue.{HoldingsValue}
use Rattle.feed_kbart.specs.Files.{holdings_of}
use Rattle.feed_model.specs.declared.state.State.{State}
use Rattle.feed_model.specs.declared.state.State.TheVariants.{Staged, Broken, Active}
use Rattle.feed_model.specs.History.{History}
use Rattle.feed_model.specs.Content.{Part, IsText, IsContentWithin}
use Rattle.feed_model.proofs.Reports.{file_of_record}
use Rattle.feed_releases.specs.ReleaseValue.{ReleaseValue, content_of, IsKnown}
use Rattle.feed_releases.specs.Actives.{ActiveValue, active_of, actives_of, is_package_before, insert_active, inserted, IsReported, AreKnown}
use Rattle.feed_releases.proofs.Finding.{own_at, reports_at}

-- what is known of a release with holdings: it is active, and they are those of its text
pub holds : (s : State) (size : ℕ) (parts : List Part) (o : Option HoldingsValue) (holdings : HoldingsValue) → IsKnown s size parts o → o ≡ Some holdings
    → (s ≡ Active) × (text : List ℕ) × IsText size parts text × (holdings ≡ holdings_of text)
holds Staged size parts o holdings known held = absurd (let e : o ≡ None = known in cc)
holds Broken size parts o holdings known held = absurd (let e : o ≡ None = known.3 in cc)
holds Active size parts o holdings known held = (refl, known.0, known.1, let e : o ≡ Some (holdings_of known.0) = known.3 in cc)

-- the element does not depend on what stands for one that is not there
same_element : (rs : List ReleaseValue) (i : ℕ) (d e : ReleaseValue) → i < length rs → get_or rs i d ≡ get_or rs i e
same_element [] i d e lt = absurd (omega arith)
same_element (r ∷ rs) zero d e lt = refl
same_element (r ∷ rs) (suc i) d e lt = same_element rs i d e (omega arith)

-- a release with holdings is reported
one_reported : {most : ℕ} (rs : List ReleaseValue) (h : History) (i : ℕ) (d : ReleaseValue) (holdings : HoldingsValue) → IsContentWithin most (content_of rs) h → AreKnown rs → i < length rs
    → (get_or rs i d).holdings ≡ Some holdings → IsReported h (record { name = (get_or rs i d).kept.name; holdings = holdings })
one_reported rs h i d holdings is known lt held =
    let r : ReleaseValue = get_or rs i d in
    let has = holds r.kept.state r.kept.size r.kept.parts r.holdings holdings (known i d lt) held in
    record {
      reports = reports_at rs h r.kept.name.package_name i d is lt (has.0, refl);
      text = has.1;
      file = file_of_record (content_of rs) h r.kept has.1 is (own_at rs i d is.distinct lt) has.2.count has.2.bytes;
      holdings = has.3;
    }

-- what each release with holdings has, each active one has
pub collected : (P : ActiveValue → Type 0) (rs : List ReleaseValue)
    → ((i : ℕ) (d : ReleaseValue) (holdings : HoldingsValue) → i < length rs → (get_or rs i d).holdings ≡ Some holdings
    → P (record { name = (get_or rs i d).kept.name; holdings = holdings }))
    → AllByRecursion P (filter_map active_of rs)
collected P [] each = tt
collected P (r ∷ rs) each = go r.holdings refl (collected P rs (λ i d holdings lt held. each (suc i) d holdings (omega arith) held))
  where
    go : (o : Option HoldingsValue) → r.holdings ≡ o → AllByRecursion P (filter_map active_of rs) → AllByRecursion P (filter_map active_of (r ∷ rs))
    go None e rest = rw e rest
    go (Some holdings) e rest = rw e (each 0 r holdings (omega arith) e, rest)

-- one put among others
pub put_in : (P : ActiveValue → Type 0) (a : ActiveValue) (xs : List ActiveValue) → P a → AllByRecursion P xs → AllByRecursion P (insert_active a xs)
put_in P a [] here all = (here, tt)
put_in P a (x ∷ xs) here all = elim (cases_Bool (is_package_before x a)) [
  | inl e ↦ rw e (all.0, put_in P a xs here all.1)
  | inr e ↦ rw e (here, all)
]

-- and all of them
all_in : (P : ActiveValue → Type 0) (others actives : List ActiveValue) → AllByRecursion P others → AllByRecursion P actives → AllByRecursion P (inserted others actives)
all_in P others [] all more = all
all_in P others (a ∷ actives) all more = all_in P (insert_active a others) actives (put_in P a others more.0 all) more.1

pub each_reported : {most : ℕ} (rs : List ReleaseValue) (h : History) → IsContentWithin most (content_of rs) h → AreKnown rs → All (IsReported h) (actives_of rs)
each_reported rs h is known = All-from_recursion (IsReported h) (actives_of rs)
    (all_in (IsReported h) [] (filter_map active_of rs) tt
    (collected (IsReported h) rs (λ i d holdings lt held. one_reported rs h i d holdings is known lt held)))

-- what follows of a result from two facts of it
pub of_both : {A E : Type 0} (r : Result A E) (P Q : A → Type 0) (K : Type 0) → ((a : A) → P a → K → Q a) → IfOk r P → OnOk r K → IfOk r Q
of_both (Ok a) P Q K follows p k = follows a p k
of_both (Err e) P Q K follows p k = tt
