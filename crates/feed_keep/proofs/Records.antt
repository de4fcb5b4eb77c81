-- Records of the plain keeper.
use Rattle.std.proofs.Common.{◌≡◌, ◌<◌, ◌≤◌, ℕ, zero, suc, Bool, true, false, List, [], ◌∷◌, length}
use Rattle.std.proofs.Common.{get_or, set, insert, filter, Some, None, Result, Ok, Err, OnErr, refl, ap, subst, arith}
use Rattle.feed_names.specs.ReleaseName.{Name, name_eq}
use Rattle.feed_model.specs.Content.{Record, Content, record_of}
use Rattle.feed_model.specs.Change.{changed, comes_before, insert_record}
use Rattle.feed_keep.specs.declared.record.Record as code
use Rattle.feed_keep.specs.Shown.{shown, shown_record, IsRecordAt}

pub none_found : (rs : List code.Record) (n : Name) → ((k : ℕ) (d : code.Record) → k < length rs → name_eq (get_or rs k d).name n ≡ false) → record_of (shown rs) n ≡ None
none_found [] n out = refl
none_found (r ∷ rs) n out = rw (out 0 r (omega arith)) (none_found rs n (λ k d lt. out (suc k) d (omega arith)))

-- a record changed at its place is changed under its name
pub set_at : (rs : List code.Record) (n : Name) (i : ℕ) (d x : code.Record) (f : Record → Record) → IsRecordAt rs n i → shown_record x ≡ f (shown_record (get_or rs i d))
    → shown (set rs i x) ≡ changed n f (shown rs)
set_at [] n i d x f place is = absurd (omega (arith, place.within))
set_at (r ∷ rs) n zero d x f place is = rw (place.here r) (ap (λ y. y ∷ shown rs) is)
set_at (r ∷ rs) n (suc i) d x f place is = rw (place.before 0 r (omega arith))
    (ap (λ y. shown_record r ∷ y) (set_at rs n i d x f (record { within = omega (arith, place.within); here = λ e. place.here e; before = λ k e lt. place.before (suc k) e (omega arith) }) is))

-- a name that has no record is changed nowhere
pub changed_none : (n : Name) (f : Record → Record) (c : Content) → record_of c n ≡ None → changed n f c ≡ c
changed_none n f [] none = refl
changed_none n f (r ∷ rs) none = by (name_eq r.name n) refl (changed_none n f rs)
  where
    by : (b : Bool) → name_eq r.name n ≡ b → (record_of rs n ≡ None → changed n f rs ≡ rs) → changed n f (r ∷ rs) ≡ r ∷ rs
    by true e rest = let found : Some r ≡ None = rw e at none in cc
    by false e rest = rw e (ap (λ ys. r ∷ ys) (rest (rw e at none)))

-- a record at this place comes no earlier than the name
abbrev pub StopsAt : List code.Record → ℕ → Name → Type 0
StopsAt rs i n = (y : code.Record) × (y ≡ get_or rs i y) × (comes_before y.name n ≡ false)

-- a new record goes behind those whose names come before its own
pub insert_at : (rs : List code.Record) (i : ℕ) (r : code.Record) → i ≤ length rs → ((k : ℕ) (d : code.Record) → k < i → comes_before (get_or rs k d).name r.name ≡ true)
    → (i < length rs → StopsAt rs i r.name) → shown (insert rs i r) ≡ insert_record (shown_record r) (shown rs)
insert_at [] zero r le before stops = refl
insert_at [] (suc i) r le before stops = absurd (omega arith)
insert_at (x ∷ xs) zero r le before stops =
    let stop = stops (omega arith) in
    let later : comes_before x.name r.name ≡ false = subst (λ (y : code.Record). comes_before y.name r.name ≡ false) stop.1 stop.2 in
    rw later refl
insert_at (x ∷ xs) (suc i) r le before stops = rw (before 0 x (omega arith))
    (ap (λ ys. shown_record x ∷ ys) (insert_at xs i r (omega arith) (λ k d lt. before (suc k) d (omega arith)) (λ lt. stops (omega arith))))

-- writing the same record back changes nothing
pub set_same : (rs : List code.Record) (i : ℕ) (d x : code.Record) → shown_record x ≡ shown_record (get_or rs i d) → shown (set rs i x) ≡ shown rs
set_same [] i d x is = refl
set_same (r ∷ rs) zero d x is = ap (λ y. y ∷ shown rs) is
set_same (r ∷ rs) (suc i) d x is = ap (λ y. shown_record r ∷ y) (set_same rs i d x is)

-- the records that a test of their names keeps
pub shown-filter : (test : Name → Bool) (rs : List code.Record) → shown (filter (λ r. test r.name) rs) ≡ filter (λ r. test r.name) (shown rs)
shown-filter test [] = refl
shown-filter test (r ∷ rs) = by (test r.name) refl (shown-filter test rs)
  where
    by : (b : Bool) → test r.name ≡ b → shown (filter (λ r. test r.name) rs) ≡ filter (λ r. test r.name) (shown rs)
        → shown (filter (λ r. test r.name) (r ∷ rs)) ≡ filter (λ r. test r.name) (shown (r ∷ rs))
    by true e rest = rw e (ap (λ ys. shown_record r ∷ ys) rest)
    by false e rest = rw e rest

-- what holds anyway holds after an error
pub on_err : {T E : Type 0} (r : Result T E) (P : Type 0) → P → OnErr r P
on_err (Ok x) P p = tt
on_err (Err e) P p = p
