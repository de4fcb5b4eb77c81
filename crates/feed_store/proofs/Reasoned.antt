-- Records and the reasons that they get.
use Rattle.std.proofs.Common.{◌≡◌, false, List, [], ◌∷◌, ◌++◌, length, Option, Some, None, refl, sym, ap, subst, ◌∙◌, arith}
use Rattle.std.specs.List.{AllByRecursion, IsDistinct}
use Rattle.std.proofs.lemmas.Map.Keys.{IsDistinct-head, IsDistinct-tail}
use Rattle.sqlite.specs.Effect.{Database}
use Rattle.feed_names.specs.ReleaseName.{name_eq}
use Rattle.feed_kbart.specs.declared.fault.BadFile.{BadFile}
use Rattle.feed_model.specs.declared.state.State.{State}
use Rattle.feed_model.specs.declared.state.State.TheVariants.{Staged, Broken, Active}
use Rattle.feed_model.specs.Content.{Content, Record, names}
use Rattle.feed_model.proofs.Names.{name_self}
use Rattle.feed_store_model.specs.Tables.{IsLayout1, HoldsRecords, HoldsReleases, IsTabled, content_without_reasons}
use Rattle.feed_store_model.proofs.Explained.{all_records}
use Rattle.feed_store_model.proofs.Ours.{tabled_earlier}
use Rattle.feed_store_model.proofs.Stored.{stored}
use Rattle.feed_store_write.specs.Effects.{IsUpgraded, IsUpgradeIf, KeepsReleases}
use Rattle.feed_store_write.specs.Upgrading.{AreStored, IsStoredIf, explain, explain_by, explained_with}
use Rattle.feed_store.specs.Upgraded.{AddReasons, GetsReasons, IsUpgradedWithReasons, IsReasonOf, AddsReason}

-- one record more
pub reasoned_more : (c d : Content) (r s : Record) → AddReasons c d → AddsReason r s → AddReasons (c ++ r ∷ []) (d ++ s ∷ [])
reasoned_more [] [] r s all one = (one, tt)
reasoned_more [] (y ∷ ys) r s all one = absurd all
reasoned_more (x ∷ xs) [] r s all one = absurd all
reasoned_more (x ∷ xs) (y ∷ ys) r s all one = (all.0, reasoned_more xs ys r s all.1 one)

pub reasoned_names : (c d : Content) → AddReasons c d → names d ≡ names c
reasoned_names [] [] all = refl
reasoned_names [] (s ∷ ss) all = absurd all
reasoned_names (r ∷ rs) [] all = absurd all
reasoned_names (r ∷ rs) (s ∷ ss) all = rw (ap (λ (x : Record). x.name) all.0.2, reasoned_names rs ss all.1) refl

-- the reason of a file can be stored
reason_stored : (state : State) (r : Record) (o : Option BadFile) → IsReasonOf state r o → IsStoredIf o
reason_stored Broken r (Some why) bad = stored bad.1 why bad.3
reason_stored Broken r None bad = tt
reason_stored Staged r o none = rw none tt
reason_stored Active r o none = rw none tt

pub all_stored : (c d : Content) → AddReasons c d → AreStored d
all_stored [] [] all = tt
all_stored [] (s ∷ ss) all = absurd all
all_stored (r ∷ rs) [] all = absurd all
all_stored (r ∷ rs) (s ∷ ss) all =
    (subst IsStoredIf (sym (ap (λ (x : Record). x.reason) all.0.2)) (reason_stored r.state r all.0.0 all.0.1), all_stored rs ss all.1)

-- the reasons of other names leave a record as it is
passed : (s : Record) (ds c : Content) → AllByRecursion (λ n. name_eq s.name n ≡ false) (names ds) → explained_with ds (s ∷ c) ≡ s ∷ explained_with ds c
passed s [] c apart = refl
passed s (d ∷ ds) c apart = ap (explained_with ds) (by d.reason) ∙ passed s ds (explain d c) apart.1
  where
    by : (o : Option BadFile) → explain_by d.name o (s ∷ c) ≡ s ∷ explain_by d.name o c
    by None = refl
    by (Some why) = rw apart.0 refl

-- a record in front gets its reason
fronted : (r : Record) (rs : Content) (o : Option BadFile) → r.reason ≡ None → explain_by r.name o (r ∷ rs) ≡ (let x : Record = record r { reason = o } in x) ∷ rs
fronted r rs None bare = ap (λ (o : Option BadFile). let x : Record = record r { reason = o } in x ∷ rs) bare
fronted r rs (Some why) bare = rw (name_self r.name) refl

-- records without reasons, with the reasons of other ones added, are those
with_all : (c d : Content) → AddReasons c d → IsDistinct name_eq (names c) → AllByRecursion (λ r. r.reason ≡ None) c → explained_with d c ≡ d
with_all [] [] all apart bare = refl
with_all [] (s ∷ ss) all apart bare = absurd all
with_all (r ∷ rs) [] all apart bare = absurd all
with_all (r ∷ rs) (s ∷ ss) all apart bare =
    let is : s ≡ record r { reason = all.0.0 } = all.0.2 in
    let first : explain s (r ∷ rs) ≡ s ∷ rs = rw is (fronted r rs all.0.0 bare.0) in
    let others : AllByRecursion (λ n. name_eq s.name n ≡ false) (names ss) = subst (λ (x : Record). AllByRecursion (λ n. name_eq x.name n ≡ false) (names ss)) (sym is)
    (subst (AllByRecursion (λ n. name_eq r.name n ≡ false)) (sym (reasoned_names rs ss all.1)) (IsDistinct-head name_eq r.name (names rs) apart)) in
    ap (explained_with ss) first ∙ passed s ss rs others
    ∙ ap (λ (x : Content). s ∷ x) (with_all rs ss all.1 (IsDistinct-tail name_eq r.name (names rs) apart) bare.1)

-- the content of a database of layout 1, with the reasons that its records get, is those records
all_explained : (db : Database) (d : Content) → GetsReasons (content_without_reasons db) d → explained_with d (content_without_reasons db) ≡ d
all_explained db d it = with_all (content_without_reasons db) d it.reasoned it.distinct (all_records (λ r. r.reason ≡ None) (db.trees 3) (db.trees 1) (λ r h. refl))

-- rows that stay hold a list of records only if they held one
listed_before : (old new : Database) → KeepsReleases old new → HoldsRecords new → HoldsReleases old
listed_before old new kept has = rw (kept.0, kept.1) at has.rows

-- an upgrade adds the reasons that the records get
pub moved : (a b c new : Database) (d : Content) → b ≡ a → c ≡ b → IsLayout1 a → AreStored d → (IsTabled b → HoldsReleases b → GetsReasons (content_without_reasons b) d)
    → IsUpgradeIf (AreStored d) (explained_with d) c new → IsUpgradedWithReasons a new
moved a b c new d same still earlier can gets upgrades =
    let mine : IsLayout1 b = subst IsLayout1 (sym same) earlier in
    let it : IsUpgraded (explained_with d) b new = subst (λ (x : Database). IsUpgraded (explained_with d) x new) still (upgrades can (subst IsLayout1 (sym still) mine)) in
    let up : IsUpgradedWithReasons b new = record {
      ours = it.ours;
      rows = it.rows;
      listed = it.listed;
      damaged = λ none has. none (listed_before b new it.rows has);
      content = λ are. let reasons = gets (tabled_earlier b mine) are in subst (AddReasons (content_without_reasons b)) (sym (it.content are ∙ all_explained b d reasons)) reasons.reasoned;
    } in
    subst (λ (x : Database). IsUpgradedWithReasons x new) same up

-- a list in two halves; the first takes one more
pub one_yielded : {X : Type 0} (xs : List X) (x : X) (ys zs : List X) → zs ≡ x ∷ ys → (xs ++ x ∷ []) ++ ys ≡ xs ++ zs
one_yielded [] x ys zs e = sym e
one_yielded (w ∷ ws) x ys zs e = ap (λ l. w ∷ l) (one_yielded ws x ys zs e)

-- the second half is empty
pub all_yielded : {X : Type 0} (xs ys zs : List X) → ys ≡ [] → xs ++ ys ≡ zs → xs ≡ zs
all_yielded {X = X} xs ys zs none e = sym (right xs) ∙ ap (λ l. xs ++ l) (sym none) ∙ e
  where
    right : (l : List X) → l ++ [] ≡ l
    right [] = refl
    right (w ∷ ws) = ap (λ (l : List X). w ∷ l) (right ws)

pub none_left : {X : Type 0} (xs : List X) → length xs ≡ 0 → xs ≡ []
none_left [] e = refl
none_left (x ∷ xs) e = absurd (omega (arith, e))
