-- Keys in order that are counted one by one.
use Rattle.std.proofs.Common.{◌≡◌, ◌+◌, ℕ, zero, suc, ◌<◌, List, [], ◌∷◌, ◌++◌, map, take, length, get_or, Result, Ok, Err, IfOk, true, false}
use Rattle.std.proofs.Common.{refl, ap, sym, ◌∙◌, subst, arith, append_assoc, replicate, IsPermutation}
use Rattle.std.specs.List.Sorted.{IsSortedByKey}
use Rattle.std.specs.Borrow.{Bor}
use Rattle.std.specs.Cmp.Lexicographic.{slice_cmp, texts_ties}
use Rattle.std.specs.Ordering.{nat_cmp, is_eq, is_lt, ordering_reverse}
use Rattle.std.specs.Str.{bytes_eq}
use Rattle.std.specs.declared.cmp.Ordering.{Ordering}
use Rattle.std.specs.declared.cmp.Ordering.TheVariants.{Less, Equal, Greater}
use Rattle.std.proofs.lemmas.Cmp.{nat_list_cmp_total}
use Rattle.std.proofs.lemmas.Grind.{flat_map-append}
use Rattle.std.proofs.lemmas.List.{map-append, append-nil, get_or_default, take_more}
use Rattle.std.proofs.lemmas.List.Sorted.{IsPermutation-refl, IsPermutation-trans}
use Rattle.feed_openurl.specs.Dropped.{AreAscending, AreCounted, DroppedValue, appearances, dropped}

-- the keys so far are those counted, with the current one as often as it is at the end
pub record IsCounting (keys : List (List ℕ)) (current : List ℕ) (count : ℕ) (found : List DroppedValue) : Type 0 where
  pub counted : List (List ℕ × ℕ)
  pub shown_so : found ≡ map dropped counted
  pub whole : appearances (counted ++ (current, count) ∷ []) ≡ keys
  pub ascending : AreAscending (counted ++ (current, count) ∷ [])

pub counting_first : (key : List ℕ) → IsCounting (key ∷ []) key 1 []
counting_first key = record { counted = []; shown_so = refl; whole = refl; ascending = tt }

again : (n : ℕ) (key : List ℕ) → replicate (n + 1) key ≡ replicate n key ++ key ∷ []
again zero key = refl
again (suc n) key = let e : suc n + 1 ≡ suc (n + 1) = omega arith in rw e (ap (λ ks. key ∷ ks) (again n key))

one_more : (counted : List (List ℕ × ℕ)) (key : List ℕ) (n : ℕ) → appearances (counted ++ (key, n) ∷ []) ≡ appearances counted ++ replicate n key
one_more counted key n =
    flat_map-append (λ (entry : List ℕ × ℕ). replicate entry.1 entry.0) counted ((key, n) ∷ []) ∙ ap (λ ks. appearances counted ++ ks) (append-nil (replicate n key))

recounted : (counted : List (List ℕ × ℕ)) (key : List ℕ) (n m : ℕ) → AreAscending (counted ++ (key, n) ∷ []) → AreAscending (counted ++ (key, m) ∷ [])
recounted [] key n m up = tt
recounted (a ∷ []) key n m up = (up.0, tt)
recounted (a ∷ b ∷ more) key n m up = (up.0, recounted (b ∷ more) key n m up.1)

-- the same key again
pub counting_again : (keys : List (List ℕ)) (current key : List ℕ) (count : ℕ) (found : List DroppedValue) → key ≡ current → IsCounting keys current count found
    → IsCounting (keys ++ key ∷ []) current (count + 1) found
counting_again keys current key count found same was = record {
  counted = was.counted;
  shown_so = was.shown_so;
  whole = one_more was.counted current (count + 1) ∙ ap (λ ks. appearances was.counted ++ ks) (again count current)
      ∙ sym (append_assoc (appearances was.counted) (replicate count current) (current ∷ []))
      ∙ ap (λ ks. ks ++ current ∷ []) (sym (one_more was.counted current count) ∙ was.whole) ∙ ap (λ (k : List ℕ). keys ++ k ∷ []) (sym same);
  ascending = recounted was.counted current count (count + 1) was.ascending;
}

further : (counted : List (List ℕ × ℕ)) (key next : List ℕ) (n m : ℕ) → AreAscending (counted ++ (key, n) ∷ []) → is_lt (slice_cmp nat_cmp key next) ≡ true
    → AreAscending ((counted ++ (key, n) ∷ []) ++ (next, m) ∷ [])
further [] key next n m up less = (less, tt)
further (a ∷ []) key next n m up less = (up.0, (less, tt))
further (a ∷ b ∷ more) key next n m up less = (up.0, further (b ∷ more) key next n m up.1 less)

-- the next key
pub counting_next : (keys : List (List ℕ)) (current key : List ℕ) (count : ℕ) (found more : List DroppedValue) → is_lt (slice_cmp nat_cmp current key) ≡ true
    → more ≡ found ++ dropped (current, count) ∷ [] → IsCounting keys current count found → IsCounting (keys ++ key ∷ []) key 1 more
counting_next keys current key count found more less pushed was =
    let counted = was.counted ++ (current, count) ∷ [] in record {
      counted = counted;
      shown_so = pushed ∙ ap (λ ks. ks ++ dropped (current, count) ∷ []) was.shown_so ∙ sym (map-append dropped was.counted ((current, count) ∷ []));
      whole = one_more counted key 1 ∙ ap (λ ks. ks ++ key ∷ []) was.whole;
      ascending = further was.counted current key count 1 was.ascending less;
    }

-- no key is left
pub counting_ends : (keys : List (List ℕ)) (current : List ℕ) (count : ℕ) (found more : List DroppedValue) → more ≡ found ++ dropped (current, count) ∷ []
    → IsCounting keys current count found → AreCounted keys more
counting_ends keys current count found more pushed was =
    let counted = was.counted ++ (current, count) ∷ [] in record {
      counted = counted;
      shown_so = pushed ∙ ap (λ ks. ks ++ dropped (current, count) ∷ []) was.shown_so ∙ sym (map-append dropped was.counted ((current, count) ∷ []));
      whole = subst (IsPermutation keys) (sym was.whole) (IsPermutation-refl keys);
      ascending = was.ascending;
    }

-- keys in another order are counted alike
pub counted_moved : (keys others : List (List ℕ)) (found : List DroppedValue) → IsPermutation keys others → AreCounted others found → AreCounted keys found
counted_moved keys others found moved was = record {
  counted = was.counted;
  shown_so = was.shown_so;
  whole = IsPermutation-trans keys others (appearances was.counted) moved was.whole;
  ascending = was.ascending;
}

pub none_counted : AreCounted [] []
none_counted = record { counted = []; shown_so = refl; whole = IsPermutation-refl []; ascending = tt }

-- a key that is not before another one, and is another, is behind it
pub behind : (current key : List ℕ) → is_lt (slice_cmp nat_cmp key current) ≡ false → bytes_eq key current ≡ false → is_lt (slice_cmp nat_cmp current key) ≡ true
behind current key sorted other =
    by (slice_cmp nat_cmp current key) (slice_cmp nat_cmp key current) (nat_list_cmp_total.antisymm current key) sorted (sym (texts_ties key current) ∙ other)
  where
    by : (o p : Ordering) → o ≡ ordering_reverse p → is_lt p ≡ false → is_eq p ≡ false → is_lt o ≡ true
    by o Less e less same = absurd (let u : true ≡ false = less in cc)
    by o Equal e less same = absurd (let u : true ≡ false = same in cc)
    by o Greater e less same = ap is_lt e

abbrev pub now : Bor (List ℕ) → List ℕ
now key = key.now

-- a key after the first one
pub key_after : (keys rest : List (Bor (List ℕ))) (first d : Bor (List ℕ)) (i : ℕ) → keys ≡ first ∷ rest → i < length rest → (e : Bor (List ℕ))
    → get_or keys (i + 1) e ≡ get_or rest i d
key_after keys rest first d i is lt e =
    let next : suc i ≡ i + 1 = omega arith in
    subst (λ (l : List (Bor (List ℕ))). get_or l (i + 1) e ≡ get_or rest i d) (sym is)
    (subst (λ (n : ℕ). get_or (first ∷ rest) n e ≡ get_or rest i d) next (get_or_default rest i e d lt))

-- the keys up to the next one
pub next_key : (keys : List (Bor (List ℕ))) (i : ℕ) (key : Bor (List ℕ)) → i + 1 < length keys → (get_or keys (i + 1) key).now ≡ key.now
    → map (λ k. k.now) (take (i + 1 + 1) keys) ≡ map (λ k. k.now) (take (i + 1) keys) ++ key.now ∷ []
next_key keys i key lt is =
    ap (map now) (take_more keys (i + 1) key lt) ∙ map-append now (take (i + 1) keys) (get_or keys (i + 1) key ∷ [])
    ∙ ap (λ (k : List ℕ). map now (take (i + 1) keys) ++ k ∷ []) is

-- the next key is not before the one that is counted
pub in_order : (keys : List (Bor (List ℕ))) (i : ℕ) (key : Bor (List ℕ)) (current : List ℕ) → IsSortedByKey (λ k. k.now) (slice_cmp nat_cmp) keys → i + 1 < length keys
    → (get_or keys (i + 1) key).now ≡ key.now → (get_or keys i key).now ≡ current → is_lt (slice_cmp nat_cmp key.now current) ≡ false
in_order keys i key current sorted lt is was =
    subst (λ (k : List ℕ). is_lt (slice_cmp nat_cmp k current) ≡ false) is
    (subst (λ (k : List ℕ). is_lt (slice_cmp nat_cmp (get_or keys (i + 1) key).now k) ≡ false) was (sorted i key (omega arith) lt))

-- what is found of keys in another order
pub found_moved : {V E : Type 0} (items : V → List DroppedValue) (keys others : List (List ℕ)) (r : Result V E) → IsPermutation keys others
    → IfOk r (λ v. AreCounted others (items v)) → IfOk r (λ v. AreCounted keys (items v))
found_moved items keys others (Ok v) moved was = counted_moved keys others (items v) moved was
found_moved items keys others (Err e) moved was = tt
