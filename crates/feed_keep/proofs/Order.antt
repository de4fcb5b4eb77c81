-- Names and parts stay in order.
use Rattle.std.proofs.Common.{if◌then◌else◌, ◌≡◌, ◌<◌, ◌≤◌, zero, suc, Bool, true, false, not, Option, List, [], ◌∷◌, length}
use Rattle.std.proofs.Common.{Ordering, map, filter, get_or, refl, sym, ap, subst, arith, nat_lt, cond, Result, Ok, Err, OnOk, OnErr}
use Rattle.std.specs.Borrow.{Bor}
use Rattle.std.specs.Cmp.{IsStrictWeakOrder}
use Rattle.std.proofs.lemmas.Fn.{always_returns_same}
use Rattle.std.specs.Fn.{Called, ComparesAs, Mut}
use Rattle.std.specs.Ordering.{is_lt}
use Rattle.std.specs.List.{All, AllPairs}
use Rattle.std.specs.List.Sorted.{IsSortedBy}
use Rattle.std.proofs.lemmas.Bool.Decides.{nat_tests}
use Rattle.std.proofs.lemmas.Cmp.{nat_list_cmp_total}
use Rattle.std.proofs.lemmas.List.{get_or-map, length-map}
use Rattle.std.proofs.lemmas.List.Elements.{All-cons, All-head, All-nil, All-tail}
use Rattle.std.proofs.lemmas.List.Kept.{AllPairs-cons, AllPairs-filter}
use Rattle.std.proofs.lemmas.List.MinMax.{ranks_by}
use Rattle.std.proofs.lemmas.List.Sorted.{sorted_far}
use Rattle.feed_names.specs.ReleaseName.{Name, text_of}
use Rattle.feed_model.specs.Content.{Part, Record, Content, names}
use Rattle.feed_model.specs.Change.{changed, comes_before, insert_part, insert_record, is_earlier, merged, without_earlier}
use Rattle.feed_keep.specs.declared.record.Record as code
use Rattle.feed_keep.specs.Shown.{shown}
use Rattle.feed_keep.specs.Arranged.{lengthened, ordered}
use Rattle.feed_kbart.specs.declared.fault.BadFile.{BadFile}
use Rattle.feed_model.specs.declared.state.State.{State}
use Rattle.feed_model.proofs.Distinct.{names-changed}
use Rattle.feed_keep.proofs.Arranged.{names_ordered}
use Rattle.feed_keep.specs.Order.{AreNamesInOrder, ArePartsInOrder, IsInOrder}

names_compare : IsStrictWeakOrder comes_before
names_compare = ranks_by nat_list_cmp_total text_of

module _ {X : Type 0} (R : X → X → Type 0) where
  pairs-head : (x : X) (xs : List X) → AllPairs R (x ∷ xs) → All (R x) xs
  pairs-head x xs up k d lt = up zero (suc k) d (omega arith) (omega arith)

  pairs-tail : (x : X) (xs : List X) → AllPairs R (x ∷ xs) → AllPairs R xs
  pairs-tail x xs up i j d lt within = up (suc i) (suc j) d (omega arith) (omega arith)

  pub pairs-none : AllPairs R []
  pairs-none i j d lt within = absurd (omega arith)

-- a record among others
all_insert : (P : Name → Type 0) (r : Record) (c : Content) → P r.name → All P (names c) → All P (names (insert_record r c))
all_insert P r [] one all = All-cons P r.name [] one all
all_insert P r (x ∷ xs) one all = by (comes_before x.name r.name) (all_insert P r xs one (All-tail P x.name (names xs) all))
  where
    by : (b : Bool) → All P (names (insert_record r xs)) → All P (names (if b then x ∷ insert_record r xs else r ∷ x ∷ xs))
    by true rest = All-cons P x.name (names (insert_record r xs)) (All-head P x.name (names xs) all) rest
    by false rest = All-cons P r.name (x.name ∷ names xs) one all

pub insert_in_order : (r : Record) (c : Content) → AreNamesInOrder (names c) → AreNamesInOrder (names (insert_record r c))
insert_in_order r [] up = AllPairs-cons (λ m n. comes_before n m ≡ false) r.name [] (All-nil (λ n. comes_before n r.name ≡ false)) up
insert_in_order r (x ∷ xs) up =
    by (comes_before x.name r.name) refl (insert_in_order r xs (pairs-tail (λ m n. comes_before n m ≡ false) x.name (names xs) up))
  where
    R : Name → Name → Type 0
    R m n = comes_before n m ≡ false

    behind : All (R x.name) (names xs)
    behind = pairs-head R x.name (names xs) up

    by : (b : Bool) → comes_before x.name r.name ≡ b → AreNamesInOrder (names (insert_record r xs)) → AreNamesInOrder (names (if b then x ∷ insert_record r xs else r ∷ x ∷ xs))
    by true e rest = AllPairs-cons R x.name (names (insert_record r xs)) (all_insert (R x.name) r xs (names_compare.one_way x.name r.name e) behind) rest
    by false e rest = AllPairs-cons R r.name (x.name ∷ names xs)
        (All-cons (R r.name) x.name (names xs) e (λ k d lt. names_compare.chain (get_or (names xs) k d) x.name r.name (behind k d lt) e)) up

names_without : (n : Name) (c : Content) → names (without_earlier n c) ≡ filter (λ m. not (is_earlier m n)) (names c)
names_without n [] = refl
names_without n (r ∷ rs) = by (not (is_earlier r.name n)) (names_without n rs)
  where
    by : (b : Bool) → names (without_earlier n rs) ≡ filter (λ m. not (is_earlier m n)) (names rs)
        → names (cond b (r ∷ without_earlier n rs) (without_earlier n rs)) ≡ cond b (r.name ∷ filter (λ m. not (is_earlier m n)) (names rs)) (filter (λ m. not (is_earlier m n)) (names rs))
    by true again = ap (λ ms. r.name ∷ ms) again
    by false again = again

pub without_in_order : (n : Name) (c : Content) → AreNamesInOrder (names c) → AreNamesInOrder (names (without_earlier n c))
without_in_order n c up = subst AreNamesInOrder (sym (names_without n c)) (AllPairs-filter (λ m n. comes_before n m ≡ false) (λ m. not (is_earlier m n)) (names c) up)

records_compare : IsStrictWeakOrder (λ (r s : code.Record). comes_before r.name s.name)
records_compare = record { one_way = λ r s. names_compare.one_way r.name s.name; chain = λ r s t. names_compare.chain r.name s.name t.name }

sorted_in_order : (rs : List code.Record) → IsSortedBy (λ r s. comes_before r.name s.name) rs → AreNamesInOrder (names (shown rs))
sorted_in_order rs up = subst AreNamesInOrder (names_shown rs) at
  where
    names_shown : (rs : List code.Record) → map (λ r. r.name) rs ≡ names (shown rs)
    names_shown [] = refl
    names_shown (r ∷ rs) = ap (λ ns. r.name ∷ ns) (names_shown rs)

    first : (rs : List code.Record) → 0 < length rs → code.Record
    first [] lt = absurd (omega arith)
    first (r ∷ rs) lt = r

    name : code.Record → Name
    name r = r.name

    at : AreNamesInOrder (map name rs)
    at i j d lt within =
        let count : length (map name rs) ≡ length rs = length-map rs name in
        let e = first rs (omega (arith, count)) in
        rw (get_or-map name rs j e d (omega (arith, count)), get_or-map name rs i e d (omega (arith, count)))
        (sorted_far (λ r s. comes_before r.name s.name) records_compare rs up i j e (omega arith) (omega (arith, count)))

-- records that were sorted by the texts of their names
pub order_of_sort : {F : Type 0} {g : Mut F (Bor code.Record × (Bor code.Record × Unit {0})) Ordering} {f : F} (rs : List code.Record)
    → ((lt : code.Record → code.Record → Bool) → IsStrictWeakOrder lt → ComparesAs g lt f → IsSortedBy lt rs)
    → ((a : Bor code.Record × (Bor code.Record × Unit {0})) (o : Ordering) (f' : F) → Called g f a o f' → (is_lt o ≡ comes_before a.0.now.name a.1.0.now.name) × (f' ≡ f))
    → AreNamesInOrder (names (shown rs))
order_of_sort {g = g} {f = f} rs up calls =
    sorted_in_order rs (up (λ r s. comes_before r.name s.name) records_compare (always_returns_same g (λ a o. is_lt o ≡ comes_before a.0.now.name a.1.0.now.name) f calls))

-- a change that was made, or was not
pub either_in_order : {T E : Type 0} (r : Result T E) (old new made : Content) → OnOk r (new ≡ made) → OnErr r (new ≡ old) → AreNamesInOrder (names old) → AreNamesInOrder (names made)
    → AreNamesInOrder (names new)
either_in_order (Ok x) old new made is same before after = subst (λ (c : Content). AreNamesInOrder (names c)) (sym is) after
either_in_order (Err e) old new made is same before after = subst (λ (c : Content). AreNamesInOrder (names c)) (sym same) before

pub lengthened_in_order : (n : Name) (ps : List Part) (state : State) (reason : Option BadFile) (c : Content)
    → AreNamesInOrder (names c) → AreNamesInOrder (names (changed n (lengthened ps state reason) c))
lengthened_in_order n ps state reason c up = subst AreNamesInOrder (sym (names-changed n (lengthened ps state reason) (λ r. refl) c)) up

-- a part among others
all_insert_part : (P : Part → Type 0) (p : Part) (qs : List Part) → P p → All P qs → All P (insert_part p qs)
all_insert_part P p [] one all = All-cons P p [] one all
all_insert_part P p (q ∷ qs) one all = by (nat_lt p.first q.first) (all_insert_part P p qs one (All-tail P q qs all))
  where
    by : (b : Bool) → All P (insert_part p qs) → All P (if b then p ∷ q ∷ qs else q ∷ insert_part p qs)
    by true rest = All-cons P p (q ∷ qs) one all
    by false rest = All-cons P q (insert_part p qs) (All-head P q qs all) rest

insert_part_in_order : (p : Part) (qs : List Part) → ArePartsInOrder qs → ArePartsInOrder (insert_part p qs)
insert_part_in_order p [] up = AllPairs-cons (λ p q. p.first ≤ q.first) p [] (All-nil (λ q. p.first ≤ q.first)) up
insert_part_in_order p (q ∷ qs) up = by (nat_lt p.first q.first) refl (insert_part_in_order p qs (pairs-tail (λ p q. p.first ≤ q.first) q qs up))
  where
    R : Part → Part → Type 0
    R p q = p.first ≤ q.first

    behind : All (R q) qs
    behind = pairs-head R q qs up

    by : (b : Bool) → nat_lt p.first q.first ≡ b → ArePartsInOrder (insert_part p qs) → ArePartsInOrder (if b then p ∷ q ∷ qs else q ∷ insert_part p qs)
    by true e rest =
        let lt : p.first < q.first = grind (arith, nat_tests) in
        AllPairs-cons R p (q ∷ qs) (All-cons (R p) q qs (omega (arith, lt)) (λ k d within. omega (arith, lt, behind k d within))) up
    by false e rest =
        let le : q.first ≤ p.first = grind (arith, nat_tests) in
        AllPairs-cons R q (insert_part p qs) (all_insert_part (R q) p qs le behind) rest

merged_in_order : (ps qs : List Part) → ArePartsInOrder ps → ArePartsInOrder (merged ps qs)
merged_in_order ps [] up = up
merged_in_order ps (q ∷ qs) up = merged_in_order (insert_part q ps) qs (insert_part_in_order q ps up)

parts_in_order : (c : Content) → All (λ r. ArePartsInOrder r.parts) (ordered c)
parts_in_order [] = All-nil (λ r. ArePartsInOrder r.parts)
parts_in_order (r ∷ rs) = All-cons (λ r. ArePartsInOrder r.parts) _ (ordered rs) (merged_in_order [] r.parts (pairs-none (λ p q. p.first ≤ q.first))) (parts_in_order rs)

pub ordered_in_order : (c : Content) → AreNamesInOrder (names c) → IsInOrder (ordered c)
ordered_in_order c up = record { records = subst AreNamesInOrder (sym (names_ordered c)) up; parts = parts_in_order c }
