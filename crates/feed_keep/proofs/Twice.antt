-- Names that appear twice in a list of records.
use Rattle.std.proofs.Common.{◌≡◌, ◌<◌, ◌≤◌, ◌+◌, ℕ, zero, suc, Bool, true, false, List, [], ◌∷◌, length}
use Rattle.std.proofs.Common.{take, get_or, Some, None, ◌⊎◌, inl, inr, refl, sym, ◌∙◌, ap, subst, arith}
use Rattle.std.specs.List.{IsDistinct}
use Rattle.std.proofs.lemmas.Map.Keys.{apart_from_distinct, IsDistinct-from_apart}
use Rattle.feed_names.specs.ReleaseName.{Name, name_eq}
use Rattle.feed_model.specs.Content.{names, record_of}
use Rattle.feed_keep.specs.declared.record.Record as code
use Rattle.feed_keep.specs.Shown.{shown, IsRecordAt}

-- no name appears twice among the first n
abbrev pub AreApart : List code.Record → ℕ → Type 0
AreApart rs n = (i j : ℕ) (d : code.Record) → i < j → j < n → j < length rs → name_eq (get_or rs i d).name (get_or rs j d).name ≡ false

length-names : (rs : List code.Record) → length (names (shown rs)) ≡ length rs
length-names [] = refl
length-names (r ∷ rs) = ap suc (length-names rs)

name-at : (rs : List code.Record) (i : ℕ) (d : code.Record) (e : Name) → i < length rs → get_or (names (shown rs)) i e ≡ (get_or rs i d).name
name-at [] i d e lt = absurd (omega arith)
name-at (r ∷ rs) zero d e lt = refl
name-at (r ∷ rs) (suc i) d e lt = name-at rs i d e (omega arith)

record-at : (rs : List code.Record) (i : ℕ) → i < length rs → code.Record
record-at [] i lt = absurd (omega arith)
record-at (r ∷ rs) i lt = r

pub apart_distinct : (rs : List code.Record) (n : ℕ) → AreApart rs n → length rs ≤ n → IsDistinct name_eq (names (shown rs))
apart_distinct rs n apart le = IsDistinct-from_apart name_eq (names (shown rs)) (λ i j e less lt. (
    let within : j < length rs = omega (arith, lt, length-names rs) in
    let d = record-at rs j within in
    rw (name-at rs i d e (omega (arith, less, within)), name-at rs j d e within) (apart i j d less (omega (arith, within, le)) within)))

get-take : (n : ℕ) (rs : List code.Record) (i : ℕ) (d : code.Record) → i < n → get_or (take n rs) i d ≡ get_or rs i d
get-take zero rs i d lt = absurd (omega arith)
get-take (suc n) [] i d lt = refl
get-take (suc n) (r ∷ rs) zero d lt = refl
get-take (suc n) (r ∷ rs) (suc i) d lt = get-take n rs i d (omega arith)

length-take : (n : ℕ) (rs : List code.Record) → n < length rs → length (take n rs) ≡ n
length-take zero rs lt = refl
length-take (suc n) [] lt = absurd (omega arith)
length-take (suc n) (r ∷ rs) lt = ap suc (length-take n rs (omega arith))

none-at : (rs : List code.Record) (n : Name) (i : ℕ) (d : code.Record) → record_of (shown rs) n ≡ None → i < length rs → name_eq (get_or rs i d).name n ≡ false
none-at [] n i d none lt = absurd (omega arith)
none-at (r ∷ rs) n zero d none lt = by (name_eq r.name n) refl
  where
    by : (b : Bool) → name_eq r.name n ≡ b → name_eq r.name n ≡ false
    by true e = absurd (let u : Some _ ≡ None = rw e at none in cc)
    by false e = e
none-at (r ∷ rs) n (suc i) d none lt = none-at rs n i d (by (name_eq r.name n) refl) (omega arith)
  where
    by : (b : Bool) → name_eq r.name n ≡ b → record_of (shown rs) n ≡ None
    by true e = absurd (let u : Some _ ≡ None = rw e at none in cc)
    by false e = rw e at none

same-at : (rs : List code.Record) (i : ℕ) (a b : code.Record) → i < length rs → get_or rs i a ≡ get_or rs i b
same-at [] i a b lt = absurd (omega arith)
same-at (r ∷ rs) zero a b lt = refl
same-at (r ∷ rs) (suc i) a b lt = same-at rs i a b (omega arith)

-- a name that none before has
pub apart_next : (rs : List code.Record) (n : ℕ) (r : code.Record) → AreApart rs n → n < length rs → r ≡ get_or rs n r → record_of (shown (take n rs)) r.name ≡ None
    → AreApart rs (n + 1)
apart_next rs n r apart lt here none i j d less more within = pick (split j n more)
  where
    split : (a b : ℕ) → a < b + 1 → (a < b) ⊎ (a ≡ b)
    split a b l = grind arith

    pick : (j < n) ⊎ (j ≡ n) → name_eq (get_or rs i d).name (get_or rs j d).name ≡ false
    pick (inl l) = apart i j d less l within
    pick (inr e) =
        let first : name_eq (get_or rs i d).name r.name ≡ false = subst (λ (x : code.Record). name_eq x.name r.name ≡ false) (get-take n rs i d (omega (arith, less, e)))
        (none-at (take n rs) r.name i d none (omega (arith, less, e, length-take n rs lt))) in
        subst (λ (x : code.Record). name_eq (get_or rs i d).name x.name ≡ false) (here ∙ same-at rs n r d lt ∙ ap (λ k. get_or rs k d) (sym e)) first

-- a name that one before has
pub twice_not : (rs : List code.Record) (n i : ℕ) (r : code.Record) → n < length rs → r ≡ get_or rs n r → IsRecordAt (take n rs) r.name i → IsDistinct name_eq (names (shown rs)) → ⊥
twice_not rs n i r lt here at distinct =
    let less : i < n = omega (arith, at.within, length-take n rs lt) in
    let apart = apart_from_distinct name_eq (names (shown rs)) i n r.name distinct less (omega (arith, lt, length-names rs)) in
    let first : name_eq (get_or rs i r).name r.name ≡ true = subst (λ (x : code.Record). name_eq x.name r.name ≡ true) (get-take n rs i r less) (at.here r) in
    let second : name_eq (get_or rs i r).name r.name ≡ false = subst (λ (x : code.Record). name_eq (get_or rs i r).name x.name ≡ false) (sym here)
    (rw (name-at rs i r r.name (omega (arith, less, lt)), name-at rs n r r.name lt) at apart) in
    (let e : true ≡ false = sym first ∙ second in cc)
