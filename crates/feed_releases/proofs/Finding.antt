-- Releases, found by name.
use Rattle.std.proofs.Common.{◌≡◌, ◌<◌, ◌≤◌, ℕ, zero, suc, Bool, true, false, List, [], ◌∷◌, length}
use Rattle.std.proofs.Common.{get_or, set, insert, filter, Some, None, refl, sym, ◌∙◌, ap, subst, arith}
use Rattle.std.specs.List.{IsDistinct, AllByRecursion}
use Rattle.std.proofs.lemmas.Map.Keys.{IsDistinct-head, IsDistinct-tail}
use Rattle.feed_names.specs.ReleaseName.{Name, name_eq, IsEarlier}
use Rattle.feed_model.specs.declared.state.State.TheVariants.{Active}
use Rattle.feed_model.specs.History.{History, Reports}
use Rattle.feed_model.specs.Content.{Record, names, record_of, IsContentWithin}
use Rattle.feed_model.specs.Change.{changed, comes_before, insert_record, NoneIsLater}
use Rattle.feed_model.specs.Handles.{HasLaterActive}
use Rattle.feed_model.proofs.Names.{name_self}
use Rattle.feed_model.proofs.Reports.{report_some, report_none}
use Rattle.feed_releases.specs.ReleaseValue.{ReleaseValue, content_of, IsPlaceOf, IsActiveAfter, IsActiveOf}

pub length-content_of : (rs : List ReleaseValue) → length (content_of rs) ≡ length rs
length-content_of [] = refl
length-content_of (r ∷ rs) = omega (arith, length-content_of rs)

pub none_found : (rs : List ReleaseValue) (n : Name) → ((k : ℕ) (d : ReleaseValue) → k < length rs → name_eq (get_or rs k d).kept.name n ≡ false) → record_of (content_of rs) n ≡ None
none_found [] n out = refl
none_found (r ∷ rs) n out = rw (out 0 r (omega arith)) (none_found rs n (λ k d lt. out (suc k) d (omega arith)))

pub found_at : (rs : List ReleaseValue) (n : Name) (i : ℕ) (d : ReleaseValue) → IsPlaceOf rs n i → record_of (content_of rs) n ≡ Some (get_or rs i d).kept
found_at [] n i d place = absurd (omega (arith, place.within))
found_at (r ∷ rs) n zero d place = rw (place.here r) refl
found_at (r ∷ rs) n (suc i) d place = rw (place.before 0 r (omega arith))
    (found_at rs n i d (record { within = omega (arith, place.within); here = λ e. place.here e; before = λ k e lt. place.before (suc k) e (omega arith) }))

-- a release changed at its place is its record changed under its name
pub set_at : (rs : List ReleaseValue) (n : Name) (i : ℕ) (d x : ReleaseValue) (f : Record → Record) → IsPlaceOf rs n i → x.kept ≡ f (get_or rs i d).kept
    → content_of (set rs i x) ≡ changed n f (content_of rs)
set_at [] n i d x f place is = absurd (omega (arith, place.within))
set_at (r ∷ rs) n zero d x f place is = rw (place.here r) (ap (λ y. y ∷ content_of rs) is)
set_at (r ∷ rs) n (suc i) d x f place is = rw (place.before 0 r (omega arith))
    (ap (λ y. r.kept ∷ y) (set_at rs n i d x f (record { within = omega (arith, place.within); here = λ e. place.here e; before = λ k e lt. place.before (suc k) e (omega arith) }) is))

-- each release is found under its own name
pub apart_at : (n : Name) (rs : List ReleaseValue) (k : ℕ) (d : ReleaseValue) → AllByRecursion (λ y. name_eq n y ≡ false) (names (content_of rs)) → k < length rs
    → name_eq n (get_or rs k d).kept.name ≡ false
apart_at n [] k d a lt = absurd (omega arith)
apart_at n (r ∷ rs) zero d a lt = a.0
apart_at n (r ∷ rs) (suc k) d a lt = apart_at n rs k d a.1 (omega arith)

pub own_at : (rs : List ReleaseValue) (k : ℕ) (d : ReleaseValue) → IsDistinct name_eq (names (content_of rs)) → k < length rs
    → record_of (content_of rs) (get_or rs k d).kept.name ≡ Some (get_or rs k d).kept
own_at [] k d apart lt = absurd (omega arith)
own_at (r ∷ rs) zero d apart lt = rw (name_self r.kept.name) refl
own_at (r ∷ rs) (suc k) d apart lt =
    rw (apart_at r.kept.name rs k d (IsDistinct-head name_eq r.kept.name (names (content_of rs)) apart) (omega arith))
    (own_at rs k d (IsDistinct-tail name_eq r.kept.name (names (content_of rs)) apart) (omega arith))

-- a record that is found is that of a release
pub place_of : (rs : List ReleaseValue) (n : Name) (x : Record) → record_of (content_of rs) n ≡ Some x → (k : ℕ) × (k < length rs) × ((d : ReleaseValue) → (get_or rs k d).kept ≡ x)
place_of [] n x e = absurd (cc)
place_of (r ∷ rs) n x e = by (name_eq r.kept.name n) refl (place_of rs n x)
  where
    by : (b : Bool) → name_eq r.kept.name n ≡ b → (record_of (content_of rs) n ≡ Some x → (k : ℕ) × (k < length rs) × ((d : ReleaseValue) → (get_or rs k d).kept ≡ x))
        → (k : ℕ) × (k < length (r ∷ rs)) × ((d : ReleaseValue) → (get_or (r ∷ rs) k d).kept ≡ x)
    by true t again = (0, omega arith, λ d. let u : Some r.kept ≡ Some x = rw t at e in cc)
    by false t again = let g = again (rw t at e) in (suc g.0, (let lt : g.0 < length rs = g.1 in omega arith), g.2)

-- a later active release is a later active record
pub later_at : (rs : List ReleaseValue) (n : Name) (k : ℕ) → IsDistinct name_eq (names (content_of rs)) → k < length rs → ((d : ReleaseValue) → IsActiveAfter n (get_or rs k d))
    → HasLaterActive (content_of rs) n
later_at [] n k apart lt later = absurd (omega arith)
later_at (r ∷ rs) n k apart lt later = ((get_or (r ∷ rs) k r).kept, own_at (r ∷ rs) k r apart lt, (later r).0, (later r).1)

pub none_later : (rs : List ReleaseValue) (n : Name) → ((k : ℕ) (d : ReleaseValue) → k < length rs → IsActiveAfter n (get_or rs k d) → ⊥) → NoneIsLater (content_of rs) n
none_later rs n free a found active later =
    let at = place_of rs a.name a found in
    by rs free at.0 at.1 at.2
  where
    by : (xs : List ReleaseValue) → ((k : ℕ) (d : ReleaseValue) → k < length xs → IsActiveAfter n (get_or xs k d) → ⊥) → (k : ℕ) → k < length xs
        → ((d : ReleaseValue) → (get_or xs k d).kept ≡ a) → ⊥
    by [] free k lt same = absurd (omega arith)
    by (y ∷ ys) free k lt same = free k y lt (ap (λ (z : Record). z.state) (same y) ∙ active, subst (λ (m : Name). IsEarlier n m) (sym (ap (λ (z : Record). z.name) (same y))) later)

-- what the active release of a package reports
pub reports_at : {most : ℕ} (rs : List ReleaseValue) (h : History) (package_name : List ℕ) (k : ℕ) (d : ReleaseValue) → IsContentWithin most (content_of rs) h
    → k < length rs → IsActiveOf package_name (get_or rs k d)
    → Reports h package_name (Some (get_or rs k d).kept.name)
reports_at rs h package_name k d is lt active = report_some (content_of rs) h package_name (get_or rs k d).kept is (own_at rs k d is.distinct lt) active.0 active.1

pub reports_none : {most : ℕ} (rs : List ReleaseValue) (h : History) (package_name : List ℕ) → IsContentWithin most (content_of rs) h
    → ((k : ℕ) (d : ReleaseValue) → k < length rs → IsActiveOf package_name (get_or rs k d) → ⊥)
    → Reports h package_name None
reports_none rs h package_name is free = report_none (content_of rs) h package_name is
    (λ a found active same. let at = place_of rs a.name a found in by rs free at.0 at.1 a at.2 active same)
  where
    by : (xs : List ReleaseValue) → ((k : ℕ) (d : ReleaseValue) → k < length xs → IsActiveOf package_name (get_or xs k d) → ⊥) → (k : ℕ) → k < length xs → (a : Record)
        → ((d : ReleaseValue) → (get_or xs k d).kept ≡ a) → a.state ≡ Active → a.name.package_name ≡ package_name → ⊥
    by [] free k lt a same active stem_is = absurd (omega arith)
    by (y ∷ ys) free k lt a same active stem_is = free k y lt (ap (λ (z : Record). z.state) (same y) ∙ active, ap (λ (z : Record). z.name.package_name) (same y) ∙ stem_is)

-- a release at this place comes no earlier than the name
abbrev pub StopsAt : List ReleaseValue → ℕ → Name → Type 0
StopsAt rs i n = (y : ReleaseValue) × (y ≡ get_or rs i y) × (comes_before y.kept.name n ≡ false)

-- a new release goes behind those whose names come before its own
pub insert_at : (rs : List ReleaseValue) (i : ℕ) (r : ReleaseValue) → i ≤ length rs → ((k : ℕ) (d : ReleaseValue) → k < i → comes_before (get_or rs k d).kept.name r.kept.name ≡ true)
    → (i < length rs → StopsAt rs i r.kept.name) → content_of (insert rs i r) ≡ insert_record r.kept (content_of rs)
insert_at [] zero r le before stops = refl
insert_at [] (suc i) r le before stops = absurd (omega arith)
insert_at (x ∷ xs) zero r le before stops =
    let stop = stops (omega arith) in
    let later : comes_before x.kept.name r.kept.name ≡ false = subst (λ (y : ReleaseValue). comes_before y.kept.name r.kept.name ≡ false) stop.1 stop.2 in
    rw later refl
insert_at (x ∷ xs) (suc i) r le before stops = rw (before 0 x (omega arith))
    (ap (λ ys. x.kept ∷ ys) (insert_at xs i r (omega arith) (λ k d lt. before (suc k) d (omega arith)) (λ lt. stops (omega arith))))

-- the releases that a test of their names keeps
pub content_of-filter : (test : Name → Bool) (rs : List ReleaseValue) → content_of (filter (λ r. test r.kept.name) rs) ≡ filter (λ r. test r.name) (content_of rs)
content_of-filter test [] = refl
content_of-filter test (r ∷ rs) = by (test r.kept.name) refl (content_of-filter test rs)
  where
    by : (b : Bool) → test r.kept.name ≡ b → content_of (filter (λ r. test r.kept.name) rs) ≡ filter (λ r. test r.name) (content_of rs)
        → content_of (filter (λ r. test r.kept.name) (r ∷ rs)) ≡ filter (λ r. test r.name) (content_of (r ∷ rs))
    by true e rest = rw e (ap (λ ys. r.kept ∷ ys) rest)
    by false e rest = rw e rest
