-- The order of the keys of entries.
use Rattle.std.proofs.Common.{◌≡◌, ℕ, Bool, true, false, ◌&&◌, ◌==◌, nat_lt, List, Ordering, Less, Equal, Greater, nat_cmp, refl, sym, ap, subst, ◌∙◌}
use Rattle.std.specs.Borrow.{Bor}
use Rattle.std.specs.Cmp.{IsStrictWeakOrder, IsTotalOrder}
use Rattle.std.specs.Fn.{Called, ComparesAs, Mut}
use Rattle.std.specs.Cmp.Lexicographic.{slice_cmp, bytes_decides, nat_list_cmp_total, nat_list_eq_equiv}
use Rattle.std.specs.List.Sorted.{IsSortedBy}
use Rattle.std.specs.Ordering.{is_eq, is_lt, ordering_reverse, ordering_then}
use Rattle.std.specs.Str.{bytes_eq}
use Rattle.std.proofs.lemmas.Bool.{eqb-true}
use Rattle.std.proofs.lemmas.Cmp.{nat_cmp_total, on_total, then_total, tied_itself}
use Rattle.std.proofs.lemmas.Fn.{always_returns_same}
use Rattle.std.proofs.lemmas.List.Sorted.{ranks_by}
use Rattle.std.proofs.lemmas.Map.Text.{is_eq-slice_cmp}
use Rattle.node_site.specs.declared.entry.Entry.{Entry}
use Rattle.node_site.specs.HoldingsEntries.{IsInOrder, is_below, key_at, key_cmp, subject_cmp}
use Rattle.node_site.specs.HoldingsFaults.{is_subject}

-- the order of subjects is total
pub subject_total : IsTotalOrder subject_cmp
subject_total = then_total (on_total (λ s. s.0) nat_list_cmp_total) (on_total (λ s. s.1) nat_list_cmp_total)

-- so is that of keys
pub key_total : IsTotalOrder key_cmp
key_total = then_total (on_total (λ k. k.0) nat_cmp_total) (on_total (λ k. k.1) subject_total)

both_equal : (one other : Ordering) → ordering_then one other ≡ Equal → (one ≡ Equal) × (other ≡ Equal)
both_equal Less other h = cc
both_equal Equal other h = (refl, h)
both_equal Greater other h = cc

same_bytes : (one other : List ℕ) → slice_cmp nat_cmp one other ≡ Equal → one ≡ other
same_bytes one other h = (bytes_decides one other).0 (sym (is_eq-slice_cmp one other) ∙ ap is_eq h)

-- subjects that compare as equal are the same
pub same_subject : (one other : List ℕ × List ℕ) → subject_cmp one other ≡ Equal → one ≡ other
same_subject one other h =
    let parts = both_equal (slice_cmp nat_cmp one.0 other.0) (slice_cmp nat_cmp one.1 other.1) h in
    let package_id : one.0 ≡ other.0 = same_bytes one.0 other.0 parts.0 in
    let id : one.1 ≡ other.1 = same_bytes one.1 other.1 parts.1 in
    λ i. (package_id i, id i)

-- what is less neither way is equal
neither_less : (one other : Ordering) → one ≡ ordering_reverse other → is_lt one ≡ false → is_lt other ≡ false → other ≡ Equal
neither_less one Less h p q = cc
neither_less one Equal h p q = refl
neither_less one Greater h p q = let less : one ≡ Less = h in absurd (let e : true ≡ false = sym (ap is_lt less) ∙ p in cc)

same_number : (m n : ℕ) → nat_cmp m n ≡ Equal → m ≡ n
same_number m n h = less (nat_lt m n) refl
  where
    less : (b : Bool) → nat_lt m n ≡ b → m ≡ n
    less true e = absurd (let no : Less ≡ Equal = rw e at h in cc)
    less false e = equal (m == n) refl
      where
        equal : (b : Bool) → (m == n) ≡ b → m ≡ n
        equal true t = eqb-true m n t
        equal false t = absurd (let no : Greater ≡ Equal = rw (e, t) at h in cc)

-- keys that compare as equal are the same
pub same_key : (one other : ℕ × (List ℕ × List ℕ)) → key_cmp one other ≡ Equal → one ≡ other
same_key one other h =
    let parts = both_equal (nat_cmp one.0 other.0) (subject_cmp one.1 other.1) h in
    let hash : one.0 ≡ other.0 = same_number one.0 other.0 parts.0 in
    let subject : one.1 ≡ other.1 = same_subject one.1 other.1 parts.1 in
    λ i. (hash i, subject i)

-- they are about the same subject
pub subject_of_equal : (one other : ℕ × (List ℕ × List ℕ)) → key_cmp one other ≡ Equal → one.1 ≡ other.1
subject_of_equal one other h = ap (λ (k : ℕ × (List ℕ × List ℕ)). k.1) (same_key one other h)

-- what comes between two equal keys is equal to them
pub same_between : (a m b : ℕ × (List ℕ × List ℕ)) → a ≡ b → is_lt (key_cmp m a) ≡ false → is_lt (key_cmp b m) ≡ false → m ≡ a
same_between a m b same up down =
    let down_a : is_lt (key_cmp a m) ≡ false = subst (λ (k : ℕ × (List ℕ × List ℕ)). is_lt (key_cmp k m) ≡ false) (sym same) down in
    same_key m a (neither_less (key_cmp a m) (key_cmp m a) (key_total.antisymm a m) down_a up)

pub equal_itself : (one other : ℕ × (List ℕ × List ℕ)) → one ≡ other → key_cmp one other ≡ Equal
equal_itself one other same = subst (λ (k : ℕ × (List ℕ × List ℕ)). key_cmp one k ≡ Equal) same (tied_itself key_total one)

pub subject_passes : (one other : List ℕ × List ℕ) → one ≡ other → is_subject one other ≡ true
subject_passes one other same = subst (λ (s : List ℕ × List ℕ). is_subject one s ≡ true) same (rw (nat_list_eq_equiv.refl one.0, nat_list_eq_equiv.refl one.1) refl)

pub both_true : (s t : Bool) → (s && t) ≡ true → (s ≡ true) × (t ≡ true)
both_true true t h = (refl, h)
both_true false t h = cc

pub passing_subject : (one other : List ℕ × List ℕ) → is_subject one other ≡ true → one ≡ other
passing_subject one other h =
    let parts = both_true (bytes_eq one.0 other.0) (bytes_eq one.1 other.1) h in
    let package_id : one.0 ≡ other.0 = (bytes_decides one.0 other.0).0 parts.0 in
    let id : one.1 ≡ other.1 = (bytes_decides one.1 other.1).0 parts.1 in
    λ i. (package_id i, id i)

-- what a sort by a closure leaves is in order
pub sorted_by : {F : Type 0} {g : Mut F (Bor Entry × (Bor Entry × Unit {0})) Ordering} {f : F} (text : List ℕ) (entries : List Entry)
    → ((lt : Entry → Entry → Bool) → IsStrictWeakOrder lt → ComparesAs g lt f → IsSortedBy lt entries)
    → ((a : Bor Entry × (Bor Entry × Unit {0})) (o : Ordering) (f' : F) → Called g f a o f' → (o ≡ key_cmp (key_at text a.0.now) (key_at text a.1.0.now)) × (f' ≡ f))
    → IsInOrder text entries
sorted_by {g = g} {f = f} text entries up calls =
    up (is_below text) (ranks_by key_total (key_at text))
    (always_returns_same g (λ a o. is_lt o ≡ is_below text a.0.now a.1.0.now) f (λ a o f' k. (ap is_lt (calls a o f' k).0, (calls a o f' k).1)))
