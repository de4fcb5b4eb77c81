-- Records whose names ascend.
use Rattle.std.proofs.Common.{◌≡◌, ◌≢◌, ◌==◌, ◌⊎◌, inl, inr, nat_lt, ◌<◌, ◌≤◌, ◌+◌, ◌++◌, ℕ, zero, suc, Bool, true, false, List, [], ◌∷◌, map, length}
use Rattle.std.proofs.Common.{get_or, set, refl, sym, ap, subst, ◌∙◌, arith}
use Rattle.std.specs.List.Sorted.{IsNonDecreasingBy}
use Rattle.std.specs.Cmp.Lexicographic.{pointwise, bytes_decides}
use Rattle.std.specs.Ordering.{is_eq, is_lt, ordering_index, ordering_reverse}
use Rattle.std.specs.declared.cmp.Ordering.{Ordering}
use Rattle.std.specs.declared.cmp.Ordering.TheVariants.{Less, Equal, Greater}
use Rattle.std.proofs.lemmas.Bool.Decides.{nat_tests}
use Rattle.std.proofs.lemmas.Cmp.{nat_list_cmp_total, tied_itself}
use Rattle.std.proofs.lemmas.List.{get_or-map, length-map}
use Rattle.std.proofs.lemmas.List.Sorted.{searchable_from_sorted}
use Rattle.std.proofs.lemmas.Map.Keys.{sorted_tail}
use Rattle.std.proofs.lemmas.Map.Text.{is_eq-slice_cmp}
use Rattle.std.proofs.Math.Seq.{map-set_same}
use Rattle.feed_names.specs.ReleaseName.{Name, text_of}
use Rattle.feed_model.specs.Content.{Part, Record, names}
use Rattle.feed_keep.specs.declared.record.Record as code
use Rattle.feed_parts.specs.Shown.{shown_parts}
use Rattle.feed_keep.specs.Shown.{shown, shown_record}
use Rattle.feed_keep.specs.CheckOrder.{AreNamesAscending}
use Rattle.feed_keep.proofs.Ascending.{name_cmp, names_shown, text_cmp, up_pairs}
use Rattle.feed_store_read.specs.Pieces.{if_named}

-- ---- texts

pub same_texts : (s t : List ℕ) → text_cmp s t ≡ Equal → s ≡ t
same_texts s t h = (bytes_decides s t).0 (sym (is_eq-slice_cmp s t) ∙ ap is_eq h)

pub text_itself : (t : List ℕ) → text_cmp t t ≡ Equal
text_itself t = tied_itself nat_list_cmp_total t

-- a text that comes before another one is not that
pub less_differs : (s t : List ℕ) → text_cmp s t ≡ Less → s ≢ t
less_differs s t h e = let g : Less ≡ Equal = sym h ∙ ap (λ u. text_cmp u t) e ∙ text_itself t in absurd cc

pub greater_differs : (s t : List ℕ) → text_cmp s t ≡ Greater → s ≢ t
greater_differs s t h e = let g : Greater ≡ Equal = sym h ∙ ap (λ u. text_cmp u t) e ∙ text_itself t in absurd cc

pub apart : (s t : List ℕ) → s ≢ t → pointwise ◌==◌ s t ≡ false
apart s t differ = by (pointwise ◌==◌ s t) refl
  where
    by : (b : Bool) → pointwise ◌==◌ s t ≡ b → b ≡ false
    by true e = absurd (differ ((bytes_decides s t).0 e))
    by false e = refl

-- ---- places in lists that ascend

abbrev name_in : code.Record → Name
name_in r = r.name

pub records_up : (rs : List code.Record) → AreNamesAscending (names (shown rs)) → (i j : ℕ) (d : code.Record) → i < j → j < length rs
    → text_cmp (text_of (get_or rs i d).name) (text_of (get_or rs j d).name) ≡ Less
records_up rs up i j d lt within =
    let mine : AreNamesAscending (map name_in rs) = subst AreNamesAscending (names_shown rs) up in
    let count : length (map name_in rs) ≡ length rs = length-map rs name_in in
    let e : Name = d.name in
    rw (get_or-map name_in rs i d e (omega arith), get_or-map name_in rs j d e within) at (up_pairs name_cmp (map name_in rs) mine i j e lt (omega (arith, count)))

-- ---- the search by a text

abbrev pub found_by : List ℕ → code.Record → Ordering
found_by text r = text_cmp (text_of r.name) text

not_less : (x y : Ordering) → x ≡ ordering_reverse y → y ≡ Less → is_lt x ≡ false
not_less x y e h = ap is_lt (e ∙ ap ordering_reverse h)

pub searchable : (rs : List code.Record) (text : List ℕ) → AreNamesAscending (names (shown rs)) → IsNonDecreasingBy (λ r. ordering_index (found_by text r)) rs
searchable rs text up = searchable_from_sorted nat_list_cmp_total (λ (r : code.Record). text_of r.name) rs text (λ k d low high.
    let a = text_of (get_or rs k d).name in
    let b = text_of (get_or rs (k + 1) d).name in
    not_less (text_cmp b a) (text_cmp a b) (nat_list_cmp_total.antisymm b a) (records_up rs up k (k + 1) d (omega arith) high))

-- ---- a part that is given to the record of a name

named_none : (text : List ℕ) (f : Record → Record) (rs : List code.Record) → ((k : ℕ) (d : code.Record) → k < length rs → text ≢ text_of (get_or rs k d).name)
    → map (if_named text f) (shown rs) ≡ shown rs
named_none text f [] none = refl
named_none text f (r ∷ rs) none = rw (apart text (text_of r.name) (none 0 r (omega arith))) (ap (λ c. shown_record r ∷ c) (named_none text f rs (λ k d lt. none (suc k) d (omega arith))))

abbrev pub fuller : Record → Part → Record
fuller r p = record r { parts = r.parts ++ p ∷ [] }

-- the record of a name is the changed one, and no other
pub set_named : (rs : List code.Record) (i : ℕ) (x d : code.Record) (text : List ℕ) (f : Record → Record) → AreNamesAscending (names (shown rs)) → i < length rs
    → text_of (get_or rs i d).name ≡ text → shown_record x ≡ f (shown_record (get_or rs i d)) → shown (set rs i x) ≡ map (if_named text f) (shown rs)
set_named [] i x d text f up lt is same = absurd (omega arith)
set_named (r ∷ rs) zero x d text f up lt is same =
    let none : (k : ℕ) (e : code.Record) → k < length rs → text ≢ text_of (get_or rs k e).name =
    λ k e within. subst (λ t. t ≢ text_of (get_or rs k e).name) is (less_differs _ _ (records_up (r ∷ rs) up 0 (suc k) e (omega arith) (omega arith))) in
    let rest : map (if_named text f) (shown rs) ≡ shown rs = named_none text f rs none in
    let hit : pointwise ◌==◌ text (text_of r.name) ≡ true = (bytes_decides text (text_of r.name)).1 (sym is) in
    rw hit (λ i. same i ∷ sym rest i)
set_named (r ∷ rs) (suc i) x d text f up lt is same =
    let first : text ≢ text_of r.name = λ e. less_differs _ _ (records_up (r ∷ rs) up 0 (suc i) d (omega arith) lt) (sym e ∙ sym is) in
    rw (apart text (text_of r.name) first) (ap (λ c. shown_record r ∷ c) (set_named rs i x d text f (sorted_tail name_cmp r.name (names (shown rs)) up) (omega arith) is same))

-- the same where a search found the name
pub set_found : (rs searched : List code.Record) (i : ℕ) (x d : code.Record) (text : List ℕ) (f : Record → Record) → AreNamesAscending (names (shown rs)) → searched ≡ rs
    → i < length searched → ((e : code.Record) → text_of (get_or searched i e).name ≡ text) → shown_record x ≡ f (shown_record (get_or rs i d))
    → shown (set rs i x) ≡ map (if_named text f) (shown rs)
set_found rs searched i x d text f up same lt found as_shown =
    let within : i < length rs = subst (λ (l : List code.Record). i < length l) same lt in
    let named = subst (λ (l : List code.Record). (e : code.Record) → text_of (get_or l i e).name ≡ text) same found in
    set_named rs i x d text f up within (named d) as_shown

pub names_set : (rs : List code.Record) (i : ℕ) (x d : code.Record) → x.name ≡ (get_or rs i d).name → names (shown (set rs i x)) ≡ names (shown rs)
names_set rs i x d same = names_shown (set rs i x) ∙ map-set_same name_in rs i x d same ∙ sym (names_shown rs)

-- a record with the same parts in the place of another one
pub parts_set : (rs : List code.Record) (i : ℕ) (x d : code.Record) → shown_parts x.parts.items ≡ shown_parts (get_or rs i d).parts.items
    → map (λ r. r.parts) (shown (set rs i x)) ≡ map (λ r. r.parts) (shown rs)
parts_set [] i x d same = refl
parts_set (r ∷ rs) zero x d same = ap (λ ps. ps ∷ map (λ r. r.parts) (shown rs)) same
parts_set (r ∷ rs) (suc i) x d same = ap (λ l. shown_parts r.parts.items ∷ l) (parts_set rs i x d same)

-- a place is in front of another one, or not
pub either_side : (k i : ℕ) → (k < i) ⊎ (i ≤ k)
either_side k i = by (nat_lt k i) refl
  where
    by : (b : Bool) → nat_lt k i ≡ b → (k < i) ⊎ (i ≤ k)
    by true e = inl (grind (arith, nat_tests))
    by false e = inr (grind (arith, nat_tests))
