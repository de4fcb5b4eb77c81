-- Parts and records as lists put in order by insertion.
use Rattle.std.proofs.Common.{◌≡◌, ◌==◌, Bool, true, false, not, List, [], ◌∷◌, refl, sym, ◌∙◌, ap, if◌then◌else◌, arith, nat_lt}
use Rattle.std.specs.Ordering.{is_lt, is_eq, nat_cmp, ordering_reverse}
use Rattle.std.specs.declared.cmp.Ordering.{Ordering}
use Rattle.std.specs.declared.cmp.Ordering.TheVariants.{Less, Equal, Greater}
use Rattle.std.specs.Cmp.{IsTotalOrder}
use Rattle.std.specs.Cmp.Lexicographic.{slice_cmp}
use Rattle.std.proofs.lemmas.Cmp.{nat_list_cmp_total}
use Rattle.std.proofs.lemmas.Bool.Decides.{nat_tests}
use Rattle.sqlite_trees.proofs.TreeLemmas.{above}
use Rattle.feed_names.specs.ReleaseName.{text_of}
use Rattle.feed_model.specs.Content.{Part, Record, Content}
use Rattle.feed_model.specs.Change.{insert_part, insert_record, comes_before}
use Rattle.feed_store_model.proofs.Insertion.{IsOrderly, ins, sort}
use Rattle.feed_store_model.specs.Tables.{sorted_parts, sorted}

abbrev pub part_stops : Part → Part → Bool
part_stops p q = nat_lt p.first q.first

abbrev pub same_first : Part → Part → Bool
same_first p q = p.first == q.first

abbrev pub record_stops : Record → Record → Bool
record_stops r x = not (comes_before x.name r.name)

abbrev pub same_text : Record → Record → Bool
same_text r x = is_eq (slice_cmp nat_cmp (text_of r.name) (text_of x.name))

pub part_laws : IsOrderly same_first part_stops
part_laws = record {
  flips = λ p q. grind (arith, nat_tests);
  one_way = λ p q apart. grind (arith, nat_tests);
  goes_on = λ p q r s t. grind (arith, nat_tests);
  chain = λ p q r s t. grind (arith, nat_tests);
}

pub inserted_part : (p : Part) (ps : List Part) → insert_part p ps ≡ ins part_stops p ps
inserted_part p [] = refl
inserted_part p (q ∷ qs) = by (part_stops p q) (inserted_part p qs)
  where
    by : (b : Bool) → insert_part p qs ≡ ins part_stops p qs → (if b then p ∷ q ∷ qs else q ∷ insert_part p qs) ≡ (if b then p ∷ q ∷ qs else q ∷ ins part_stops p qs)
    by true same = refl
    by false same = ap (λ l. q ∷ l) same

pub parts_sort : (ps : List Part) → sorted_parts ps ≡ sort part_stops ps
parts_sort [] = refl
parts_sort (p ∷ ps) = ap (insert_part p) (parts_sort ps) ∙ inserted_part p (sort part_stops ps)

pub inserted_record : (r : Record) (c : Content) → insert_record r c ≡ ins record_stops r c
inserted_record r [] = refl
inserted_record r (x ∷ xs) = by (comes_before x.name r.name) (inserted_record r xs)
  where
    by : (b : Bool) → insert_record r xs ≡ ins record_stops r xs → (if b then x ∷ insert_record r xs else r ∷ x ∷ xs) ≡ (if not b then r ∷ x ∷ xs else x ∷ ins record_stops r xs)
    by true same = ap (λ l. x ∷ l) same
    by false same = refl

pub records_sort : (rs : List Record) → sorted rs ≡ sort record_stops rs
records_sort [] = refl
records_sort (r ∷ rs) = ap (insert_record r) (records_sort rs) ∙ inserted_record r (sort record_stops rs)

-- a total order, with "does not come before" for the test
module _ {K : Type 0} (R : K → K → Ordering) (o : IsTotalOrder R) where
  abbrev ends : K → K → Bool
  ends a b = not (is_lt (R b a))

  abbrev ties : K → K → Bool
  ties a b = is_eq (R a b)

  turned : (x : Ordering) → is_eq (ordering_reverse x) ≡ is_eq x
  turned Less = refl
  turned Equal = refl
  turned Greater = refl

  way : (y : Ordering) → is_eq (ordering_reverse y) ≡ false → not (is_lt y) ≡ not (not (is_lt (ordering_reverse y)))
  way Less apart = refl
  way Equal apart = absurd (let g : true ≡ false = apart in cc)
  way Greater apart = refl

  less_is : (x : Ordering) → not (is_lt x) ≡ false → x ≡ Less
  less_is Less e = refl
  less_is Equal e = absurd (let g : true ≡ false = e in cc)
  less_is Greater e = absurd (let g : true ≡ false = e in cc)

  on_way : (a b c : K) (x : Ordering) → R b a ≡ x → ends a c ≡ true → ends b c ≡ false → not (is_lt x) ≡ true
  on_way a b c Equal e s t = refl
  on_way a b c Greater e s t = refl
  on_way a b c Less e s t =
      let low : R c a ≡ Less = o.trans c b a (less_is (R c b) t) e in
      absurd (let g : false ≡ true = ap (λ x. not (is_lt x)) (sym low) ∙ s in cc)

  far : (a b c : K) (x y : Ordering) → R c a ≡ x → R c b ≡ y → ends a b ≡ true → ends b c ≡ true → not (is_lt x) ≡ true
  far a b c Equal y e f s t = refl
  far a b c Greater y e f s t = refl
  far a b c Less Less e f s t = absurd (let g : false ≡ true = ap (λ x. not (is_lt x)) (sym f) ∙ t in cc)
  far a b c Less Equal e f s t =
      let low : R b a ≡ Less = sym (o.congr c b a f) ∙ e in
      absurd (let g : false ≡ true = ap (λ x. not (is_lt x)) (sym low) ∙ s in cc)
  far a b c Less Greater e f s t =
      let low : R b a ≡ Less = o.trans b c a (above o c b f) e in
      absurd (let g : false ≡ true = ap (λ x. not (is_lt x)) (sym low) ∙ s in cc)

  pub order_laws : IsOrderly ties ends
  order_laws = record {
    flips = λ a b. ap is_eq (o.antisymm a b) ∙ turned (R b a);
    one_way = λ a b apart. way (R b a) (sym (ap is_eq (o.antisymm a b)) ∙ apart) ∙ ap (λ x. not (not (is_lt x))) (sym (o.antisymm a b));
    goes_on = λ a b c s t. on_way a b c (R b a) refl s t;
    chain = λ a b c s t. far a b c (R c a) (R c b) refl refl s t;
  }

pub record_laws : IsOrderly same_text record_stops
record_laws =
    let laws = order_laws (slice_cmp nat_cmp) nat_list_cmp_total in
    record {
      flips = λ r x. laws.flips (text_of r.name) (text_of x.name);
      one_way = λ r x. laws.one_way (text_of r.name) (text_of x.name);
      goes_on = λ r x y. laws.goes_on (text_of r.name) (text_of x.name) (text_of y.name);
      chain = λ r x y. laws.chain (text_of r.name) (text_of x.name) (text_of y.name);
    }
