-- Records that a later active one of their package has replaced, and the search for one.
use Rattle.std.proofs.Common.{◌≡◌, ◌↔◌, ◌<◌, ◌≤◌, ◌+◌, ◌++◌, ◌&&◌, ◌||◌, ◌==◌, ◌⊎◌, inl, inr, ℕ, zero, suc, ℤ, ◌<ℤ◌, Bool, true, false}
use Rattle.std.proofs.Common.{not, cond, int_lt, Some, List, [], ◌∷◌, length, take, get_or, nat_lt, ltb, map, IsTrue}
use Rattle.std.proofs.Common.{Ordering, Less, Equal, Greater, Bor, refl, sym, ap, subst, ◌∙◌, arith}
use Rattle.std.specs.List.{All, AllByRecursion, IsDistinct, list_any}
use Rattle.std.specs.Fn.{Called, ComparesAs, Mut}
use Rattle.std.specs.List.Sorted.{IsPartitionPoint, IsPartitionedBy, IsSortedBy}
use Rattle.std.specs.Cmp.{IsStrictWeakOrder, IsTotalOrder, int_cmp_is, int_ranks}
use Rattle.std.specs.Cmp.Lexicographic.{bytes_decides, pointwise, slice_cmp}
use Rattle.std.specs.Ordering.{MatchOrdering, int_cmp, is_eq, is_lt, nat_cmp, ordering_then}
use Rattle.std.proofs.lemmas.Bool.Decides.{nat_tests}
use Rattle.std.proofs.lemmas.Cmp.{int_cmp_total, nat_list_cmp_total, on_total, then_total, tied_itself}
use Rattle.std.proofs.lemmas.Fn.{always_returns_same}
use Rattle.std.proofs.lemmas.Int.{ints}
use Rattle.std.proofs.lemmas.List.Elements.{All-map}
use Rattle.std.proofs.lemmas.List.Folds.{list_any_at, list_any_none}
use Rattle.std.proofs.lemmas.List.MinMax.{ranks_by}
use Rattle.std.proofs.lemmas.List.Sorted.{sorted_far}
use Rattle.std.proofs.lemmas.Map.Keys.{IsDistinct-head, IsDistinct-tail}
use Rattle.std.proofs.lemmas.Map.Text.{is_eq-slice_cmp}
use Rattle.feed_names.specs.ReleaseName.{Name, name_eq, IsEarlier}
use Rattle.feed_model.specs.declared.state.State.{State}
use Rattle.feed_model.specs.declared.state.State.TheVariants.{Staged, Broken, Active}
use Rattle.feed_model.specs.Content.{Record, Content, names, record_of}
use Rattle.feed_model.specs.Change.{is_earlier}
use Rattle.feed_model.specs.Handles.{HasLaterActive}
use Rattle.feed_model.proofs.Names.{earlier_is, name_is, name_self}
use Rattle.feed_keep.specs.declared.record.Record as code
use Rattle.feed_keep.specs.Shown.{shown, shown_record}
use Rattle.feed_keep.specs.Retired.{AreInDayOrder, day_cmp, is_active, is_retired, retires}

days_total : IsTotalOrder day_cmp
days_total = then_total (on_total (λ (n : Name). n.package_name) nat_list_cmp_total) (on_total (λ (n : Name). n.day) int_cmp_total)

-- the one name is before the other in the order of packages and days
abbrev pub comes_sooner : Bor Name → Bor Name → Bool
comes_sooner m n = is_lt (day_cmp m.now n.now)

pub sooner_compares : IsStrictWeakOrder comes_sooner
sooner_compares = ranks_by days_total (λ (n : Bor Name). n.now)

-- ---- the first name that is greater

-- the name is not before this one
abbrev pub is_passed : Name → Bor Name → Bool
is_passed n m = not (is_lt (day_cmp n m.now))

was_not : (b : Bool) → not b ≡ true → b ≡ false
was_not true e = absurd (let g : false ≡ true = e in cc)
was_not false e = refl

was : (b : Bool) → not b ≡ false → b ≡ true
was true e = refl
was false e = absurd (let g : true ≡ false = e in cc)

pub partitioned : (n : Name) (ms : List (Bor Name)) → AreInDayOrder ms → IsPartitionedBy (is_passed n) ms
partitioned n ms up i j d before within passes =
    let behind = sorted_far comes_sooner sooner_compares ms up i j d before within in
    let low = (ranks_by days_total (λ (m : Name). m)).chain n (get_or ms j d).now (get_or ms i d).now (was_not _ passes) behind in
    ap not low

earlier_by : (m n : Name) → m.package_name ≡ n.package_name → m.day <ℤ n.day → is_earlier m n ≡ true
earlier_by m n same less =
    let first : pointwise ◌==◌ m.package_name n.package_name ≡ true = (bytes_decides m.package_name n.package_name).1 same in
    let second : int_lt m.day n.day ≡ true = grind (arith, ints) in
    rw first second

-- an earlier name of the package comes sooner
earlier_sooner : (m n : Name) → is_earlier m n ≡ true → is_lt (day_cmp m n) ≡ true
earlier_sooner m n e =
    let is = earlier_is m n e in
    let tie : slice_cmp nat_cmp m.package_name n.package_name ≡ Equal =
    subst (λ (p : List ℕ). slice_cmp nat_cmp m.package_name p ≡ Equal) is.0 (tied_itself nat_list_cmp_total m.package_name) in
    let days : Less ≡ int_cmp m.day n.day = int_cmp_is m.day n.day Less is.1 in
    ap (λ (o : Ordering). is_lt (ordering_then o (int_cmp m.day n.day))) tie ∙ ap is_lt (sym days)

same_package : (s t : List ℕ) → slice_cmp nat_cmp s t ≡ Equal → s ≡ t
same_package s t h = (bytes_decides s t).0 (sym (is_eq-slice_cmp s t) ∙ ap is_eq h)

sooner_day : (a b : ℤ) → is_lt (int_cmp a b) ≡ true → a <ℤ b
sooner_day a b h = by (int_cmp a b) h (int_ranks a b)
  where
    by : (o : Ordering) → is_lt o ≡ true → MatchOrdering o (a <ℤ b) (a ≡ b) (b <ℤ a) → a <ℤ b
    by Less h rank = rank
    by Equal h rank = absurd (let g : false ≡ true = h in cc)
    by Greater h rank = absurd (let g : false ≡ true = h in cc)

-- if a later one of the package is not before a name that is greater, this name is a later one of the package too
settles : (n x y : Name) → is_earlier n y ≡ true → is_lt (day_cmp n x) ≡ true → is_lt (day_cmp y x) ≡ false → is_earlier n x ≡ true
settles n x y e sooner behind = by (slice_cmp nat_cmp n.package_name x.package_name) refl
  where
    by : (o : Ordering) → slice_cmp nat_cmp n.package_name x.package_name ≡ o → is_earlier n x ≡ true
    by Less s =
        let t : slice_cmp nat_cmp y.package_name x.package_name ≡ Less =
        subst (λ (p : List ℕ). slice_cmp nat_cmp p x.package_name ≡ Less) (earlier_is n y e).0 s in
        let g : true ≡ false = sym (ap (λ (o : Ordering). is_lt (ordering_then o (int_cmp y.day x.day))) t) ∙ behind in
        absurd cc
    by Equal s =
        earlier_by n x (same_package _ _ s) (sooner_day n.day x.day (sym (ap (λ (o : Ordering). is_lt (ordering_then o (int_cmp n.day x.day))) s) ∙ sooner))
    by Greater s =
        let g : false ≡ true = sym (ap (λ (o : Ordering). is_lt (ordering_then o (int_cmp n.day x.day))) s) ∙ sooner in
        absurd cc

side : (k i : ℕ) → (k < i) ⊎ (i ≤ k)
side k i = by (nat_lt k i) refl
  where
    by : (b : Bool) → nat_lt k i ≡ b → (k < i) ⊎ (i ≤ k)
    by true e = inl (grind (arith, nat_tests))
    by false e = inr (grind (arith, nat_tests))

same_get : {X : Type 0} (xs : List X) (i : ℕ) (d e : X) → i < length xs → get_or xs i d ≡ get_or xs i e
same_get [] i d e lt = absurd (omega arith)
same_get (x ∷ xs) zero d e lt = refl
same_get (x ∷ xs) (suc i) d e lt = same_get xs i d e (omega arith)

-- the first name that is greater decides
module _ (n : Name) (ms : List (Bor Name)) (up : AreInDayOrder ms) (at : ℕ)
    (split : IsPartitionPoint (λ m. is_passed n m ≡ true) (λ m. is_passed n m ≡ false) ms at) where
  abbrev pub is_later : Bor Name → Bool
  is_later m = is_earlier n m.now

  passed_not : (k : ℕ) (d : Bor Name) → k < at → k < length ms → is_later (get_or ms k d) ≡ false
  passed_not k d low lt = by (is_later (get_or ms k d)) refl
    where
      by : (b : Bool) → is_later (get_or ms k d) ≡ b → b ≡ false
      by true e =
          let g : true ≡ false = sym (earlier_sooner n (get_or ms k d).now e) ∙ was_not _ (split.0 k d (omega arith) low) in
          absurd cc
      by false e = refl

  pub later_none : length ms ≤ at → false ≡ list_any is_later ms
  later_none le = sym (list_any_none is_later ms (λ k d lt. passed_not k d (omega arith) lt))

  pub later_some : (x : Bor Name) → at < length ms → get_or ms at x ≡ x → is_later x ≡ list_any is_later ms
  later_some x lt here = by (is_later x) refl
    where
      sooner : is_lt (day_cmp n x.now) ≡ true
      sooner = subst (λ (m : Bor Name). is_lt (day_cmp n m.now) ≡ true) here (was _ (split.1 at x (omega arith) lt))

      by : (b : Bool) → is_later x ≡ b → b ≡ list_any is_later ms
      by true e = sym (list_any_at is_later ms at x lt (ap is_later here ∙ e))
      by false e = sym (list_any_none is_later ms (λ k d within. at_none k d within (side k at)))
        where
          at_none : (k : ℕ) (d : Bor Name) → k < length ms → (k < at) ⊎ (at ≤ k) → is_later (get_or ms k d) ≡ false
          at_none k d within (inl low) = passed_not k d low within
          at_none k d within (inr high) = from (is_later (get_or ms k d)) refl
            where
              behind : is_lt (day_cmp (get_or ms k d).now x.now) ≡ false
              behind = subst (λ (m : Bor Name). is_lt (day_cmp (get_or ms k d).now m.now) ≡ false) (same_get ms at d x lt ∙ here)
                  (sorted_far comes_sooner sooner_compares ms up at k d high within)

              from : (b : Bool) → is_later (get_or ms k d) ≡ b → b ≡ false
              from true is = let g : true ≡ false = sym (settles n x.now (get_or ms k d).now is sooner behind) ∙ e in absurd cc
              from false is = refl

-- ---- a later active record

either : (a b : Bool) → (a || b) ≡ true → (a ≡ true) ⊎ (b ≡ true)
either true b e = inl refl
either false b e = inr e

or_second : (a b : Bool) → b ≡ true → (a || b) ≡ true
or_second true b e = refl
or_second false b e = e

active_is : (s : State) → is_active s ≡ true → s ≡ Active
active_is Staged e = absurd (let g : false ≡ true = e in cc)
active_is Broken e = absurd (let g : false ≡ true = e in cc)
active_is Active e = refl

both : (a b : Bool) → (a && b) ≡ true → (a ≡ true) × (b ≡ true)
both true b e = (refl, e)
both false b e = absurd (let g : false ≡ true = e in cc)

retires_by : (n : Name) (r : Record) → r.state ≡ Active → IsEarlier n r.name → retires n r ≡ true
retires_by n r active earlier = ap (λ (s : State). is_active s && is_earlier n r.name) active ∙ earlier_by n r.name earlier.0 earlier.1

pub later_gives : (c : Content) (n : Name) → HasLaterActive c n → is_retired c n ≡ true
later_gives [] n later = absurd (let found = later.1 in cc)
later_gives (x ∷ xs) n later = by (name_eq x.name later.0.name) refl later.1 (λ found. later_gives xs n (later.0, found, later.2, later.3))
  where
    by : (b : Bool) → name_eq x.name later.0.name ≡ b → cond b (Some x) (record_of xs later.0.name) ≡ Some later.0 → (record_of xs later.0.name ≡ Some later.0 → is_retired xs n ≡ true)
        → is_retired (x ∷ xs) n ≡ true
    by true e found rest =
        let same : x ≡ later.0 = cc in
        ap (λ (b : Bool). b || is_retired xs n) (subst (λ (r : Record). retires n r ≡ true) (sym same) (retires_by n later.0 later.2 later.3))
    by false e found rest = or_second (retires n x) (is_retired xs n) (rest found)

-- a name that is apart from all others is no other's
apart_from : (m : Name) (c : Content) (n : Name) (r : Record) → AllByRecursion (λ z. name_eq m z ≡ false) (names c) → record_of c n ≡ Some r → name_eq m n ≡ false
apart_from m [] n r apart found = absurd (cc)
apart_from m (x ∷ xs) n r apart found = by (name_eq x.name n) refl found (apart_from m xs n r apart.1)
  where
    by : (b : Bool) → name_eq x.name n ≡ b → cond b (Some x) (record_of xs n) ≡ Some r → (record_of xs n ≡ Some r → name_eq m n ≡ false) → name_eq m n ≡ false
    by true e found rest = subst (λ (z : Name). name_eq m z ≡ false) (name_is x.name n e) apart.0
    by false e found rest = rest found

pub retired_gives : (c : Content) (n : Name) → IsDistinct name_eq (names c) → is_retired c n ≡ true → HasLaterActive c n
retired_gives [] n distinct is = absurd (let g : false ≡ true = is in cc)
retired_gives (x ∷ xs) n distinct is = elim (either (retires n x) (is_retired xs n) is) [
  | inl here ↦
      let two = both (is_active x.state) (is_earlier n x.name) here in
      (x, ap (λ (b : Bool). cond b (Some x) (record_of xs x.name)) (name_self x.name), active_is x.state two.0, earlier_is n x.name two.1)
  | inr behind ↦
      let later = retired_gives xs n (IsDistinct-tail name_eq x.name (names xs) distinct) behind in
      let apart = apart_from x.name xs later.0.name later.0 (IsDistinct-head name_eq x.name (names xs) distinct) later.1 in
      (later.0, ap (λ (b : Bool). cond b (Some x) (record_of xs later.0.name)) apart ∙ later.1, later.2, later.3)
]

-- ---- loops over records

pub order_of_days : {F : Type 0} {g : Mut F (Bor (Bor Name) × (Bor (Bor Name) × Unit {0})) Ordering} {f : F} (ms : List (Bor Name))
    → ((lt : Bor Name → Bor Name → Bool) → IsStrictWeakOrder lt → ComparesAs g lt f → IsSortedBy lt ms)
    → ((a : Bor (Bor Name) × (Bor (Bor Name) × Unit {0})) (o : Ordering) (f' : F) → Called g f a o f' → (is_lt o ≡ comes_sooner a.0.now a.1.0.now) × (f' ≡ f))
    → AreInDayOrder ms
order_of_days {g = g} {f = f} ms up calls = up comes_sooner sooner_compares (always_returns_same g (λ a o. is_lt o ≡ comes_sooner a.0.now a.1.0.now) f calls)

pub all_retires : (n : Name) (rs : List code.Record) (i : ℕ) → length rs ≤ i → list_any (λ r. retires n (shown_record r)) (take i rs) ≡ is_retired (shown rs) n
all_retires n [] zero le = refl
all_retires n [] (suc i) le = refl
all_retires n (r ∷ rs) zero le = absurd (omega arith)
all_retires n (r ∷ rs) (suc i) le = ap (λ (b : Bool). retires n (shown_record r) || b) (all_retires n rs i (omega arith))

-- no record so far is retired
abbrev pub AreKept : List code.Record → ℕ → Type 0
AreKept rs count = (k : ℕ) (d : code.Record) → k < count → k < length rs → is_retired (shown rs) (get_or rs k d).name ≡ false

pub kept_next : (rs : List code.Record) (count : ℕ) (r : code.Record) → AreKept rs count → count < length rs → r ≡ get_or rs count r
    → is_retired (shown rs) r.name ≡ false → AreKept rs (count + 1)
kept_next rs count r before lt here is k d less within = pick (side k count)
  where
    pick : (k < count) ⊎ (count ≤ k) → is_retired (shown rs) (get_or rs k d).name ≡ false
    pick (inl low) = before k d low within
    pick (inr high) =
        let same : k ≡ count = omega arith in
        subst (λ (x : code.Record). is_retired (shown rs) x.name ≡ false) (here ∙ same_get rs count r d lt ∙ ap (λ i. get_or rs i d) (sym same)) is

get_or-shown : (rs : List code.Record) (k : ℕ) (d : Record) (e : code.Record) → k < length rs → get_or (shown rs) k d ≡ shown_record (get_or rs k e)
get_or-shown [] k d e lt = absurd (omega arith)
get_or-shown (r ∷ rs) zero d e lt = refl
get_or-shown (r ∷ rs) (suc k) d e lt = get_or-shown rs k d e (omega arith)

length-shown : (rs : List code.Record) → length (shown rs) ≡ length rs
length-shown [] = refl
length-shown (r ∷ rs) = ap suc (length-shown rs)

pub all_kept : (rs : List code.Record) (count : ℕ) → AreKept rs count → length rs ≤ count → All (λ r. ¬ (HasLaterActive (shown rs) r.name)) (shown rs)
all_kept rs count kept le = All-map (λ r. ¬ (HasLaterActive (shown rs) r.name)) shown_record rs (λ k d lt later.
    let g : true ≡ false = sym (later_gives (shown rs) (get_or rs k d).name later) ∙ kept k d (omega (arith, lt, le)) lt in
    absurd cc)

pub one_retired : (rs : List code.Record) (at : ℕ) (r : code.Record) → IsDistinct name_eq (names (shown rs)) → at < length rs → r ≡ get_or rs at r → is_retired (shown rs) r.name ≡ true
    → All (λ r. ¬ (HasLaterActive (shown rs) r.name)) (shown rs) → ⊥
one_retired rs at r distinct lt here is all =
    all at (shown_record r) (omega (arith, lt, length-shown rs)) (subst (λ (x : Record). HasLaterActive (shown rs) x.name)
    (ap shown_record here ∙ sym (get_or-shown rs at (shown_record r) r lt)) (retired_gives (shown rs) r.name distinct is))

pub earlier_test : (b : Bool) (m n : Name) → IsTrue b ↔ IsEarlier m n → b ≡ is_earlier m n
earlier_test b m n test = by b test (is_earlier m n) refl
  where
    by : (b : Bool) → IsTrue b ↔ IsEarlier m n → (e : Bool) → is_earlier m n ≡ e → b ≡ e
    by true t e is = sym (earlier_by m n (t.0 refl).0 (t.0 refl).1) ∙ is
    by false t true is = absurd (let g : false ≡ true = t.1 (earlier_is m n is) in cc)
    by false t false is = refl

pub is_below : (k n : ℕ) → ltb k n ≡ true → k < n
is_below k n e = grind (arith, nat_tests)

pub is_past : (k n : ℕ) → ltb k n ≡ false → n ≤ k
is_past k n e = grind (arith, nat_tests)

pub take_next : {X Y : Type 0} (f : X → Y) (xs : List X) (i : ℕ) (x : X) → i < length xs → x ≡ get_or xs i x → map f (take (i + 1) xs) ≡ map f (take i xs) ++ f x ∷ []
take_next f [] i x lt here = absurd (omega arith)
take_next f (y ∷ ys) zero x lt here = ap (λ z. f z ∷ []) (sym here)
take_next f (y ∷ ys) (suc i) x lt here =
    let e : suc i + 1 ≡ suc (i + 1) = omega arith in
    ap (λ m. map f (take m (y ∷ ys))) e ∙ ap (λ zs. f y ∷ zs) (take_next f ys i x (omega arith) here)
