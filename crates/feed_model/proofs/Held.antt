-- In a legal history no more releases are held than a feed may have.
use Rattle.std.proofs.Common.{◌≡◌, ◌≢◌, ◌<◌, ◌≤◌, ◌+◌, ◌<ℤ◌, ◌≤ℤ◌, ℕ, Bool, true, false, cond, not}
use Rattle.std.proofs.Common.{List, [], ◌∷◌, length, filter, Option, Some, None, IsSome, ◌⊎◌, inl, inr, refl, sym, ◌∙◌}
use Rattle.std.proofs.Common.{ap, subst, arith}
use Rattle.std.specs.Prelude.{IsSomeAnd}
use Rattle.std.proofs.lemmas.Int.{ints}
use Rattle.std.specs.List.{IsDistinct, AllByRecursion, Contains, list_any}
use Rattle.std.proofs.lemmas.Map.Keys.{IsDistinct-head, IsDistinct-tail, IsDistinct-cons}
use Rattle.std.proofs.lemmas.Map.Views.{list_any-from_Contains, Contains-from_any}
use Rattle.feed_names.specs.ReleaseName.{Name, name_eq}
use Rattle.feed_kbart.specs.declared.fault.BadFile.{BadFile}
use Rattle.feed_model.specs.File.{fault_of}
use Rattle.feed_model.specs.History.{Offered, Piece, Lost, History, Answer, is_noted, is_taken, byte_at, kept, IsFile, IsWhole, IsGood, IsPassed, IsHeld}
use Rattle.feed_model.specs.Reply.{IsLegalWith, Stores, HoldsNumber, kept_with, missing_below}
use Rattle.feed_model.proofs.Names.{name_is, name_cases, name_not, name_laws, package_name_cases, day_cases}
use Rattle.feed_model.proofs.Goods.{SameGood, same_back, passed_same, held_same, IsStill, goods_still}
use Rattle.feed_model.proofs.Legal.{nothing_kept}
use Rattle.feed_model.proofs.Others.{SameBut, good_other, good_back, goods_but}
use Rattle.feed_model.proofs.Moves.{added_size, only_empty}
use Rattle.feed_model.proofs.Faults.{empty_bad}
use Rattle.feed_model.proofs.Growth.{keeps_but, kept_here}
use Rattle.feed_model.proofs.Tests.{good_not_bad}
use Rattle.feed_model.proofs.Bytes.{slice_some, byte_at-within}
use Rattle.feed_model.proofs.Arrivals.{missing_none}
use Rattle.feed_model.proofs.Limits.{IsTaken, IsNoted, taken_by, noted_by, unsized}

-- A piece that is kept.

-- its release was not whole before
not_whole : (h : History) (n : Name) (first : ℕ) (bytes : List ℕ) (a : Answer) → IsTaken h n first bytes a → ¬ (IsWhole h n)
not_whole h n first bytes a taken w = taken.new (λ place s. subst IsSome (sym (w.1.1 place (inside place s))) (slice_some w.0 place (inside place s)))
  where
    most : (first + length bytes ≤ length w.0) ⊎ (length w.0 < first + length bytes) → first + length bytes ≤ length w.0
    most (inl le) = le
    most (inr past) = absurd (taken.within (subst (λ (o : Option ℕ). IsSomeAnd o (λ size. size < first + length bytes)) (sym w.1.0) past))

    inside : (place : ℕ) → IsSome (byte_at first bytes place) → place < length w.0
    inside place s = omega (arith, most (grind arith), (byte_at-within first bytes place s).1)

-- and is good or not afterwards
good_or_not : (h : History) (n : Name) (first : ℕ) (total : Option ℕ) (bytes : List ℕ) (a : Answer) → is_taken a ≡ true → Stores h n first bytes a
    → (IsGood ((Piece n first total bytes, a) ∷ h) n) ⊎ (¬ (IsGood ((Piece n first total bytes, a) ∷ h) n))
good_or_not h n first total bytes a taken (inr (inl e)) = absurd (let u : is_taken a ≡ false = ap is_taken e in cc)
good_or_not h n first total bytes a taken (inr (inr e)) = absurd (let u : is_taken a ≡ false = ap is_taken e in cc)
good_or_not h n first total bytes a taken (inl (size, sized, inl (some, e))) = inr (λ g.
    let same : length g.0 ≡ size = (let u : Some (length g.0) ≡ Some size = sym g.1.0 ∙ sized in cc) in
    let none : missing_below (kept_with h n first bytes) size ≡ 0 = missing_none (kept_with h n first bytes) size
    (λ place lt. let in' : place < length g.0 = omega arith in subst IsSome (sym (g.1.1 place in') ∙ kept_here h n first total bytes a taken place) (slice_some g.0 place in')) in
    absurd (omega arith))
good_or_not h n first total bytes a taken (inl (size, sized, inr (none, (text, len, at, e)))) = judge (fault_of text) refl
  where
    file : IsFile ((Piece n first total bytes, a) ∷ h) n text
    file = (sized ∙ ap Some (sym len), λ place lt. kept_here h n first total bytes a taken place ∙ at place (omega arith))

    judge : (o : Option BadFile) → fault_of text ≡ o → (IsGood ((Piece n first total bytes, a) ∷ h) n) ⊎ (¬ (IsGood ((Piece n first total bytes, a) ∷ h) n))
    judge None good = inl (text, file, good)
    judge (Some why) bad = inr (λ g. good_not_bad ((Piece n first total bytes, a) ∷ h) n g (text, file, λ u. (let v : Some why ≡ None = sym bad ∙ u in absurd (cc))))

-- what was passed stays passed where a release becomes good
passed_on : (n : Name) (h k : History) → SameBut n h k → ¬ (IsGood h n) → IsGood k n → (m : Name) → IsPassed h m → IsPassed k m
passed_on n h k but before good m p = at (package_name_cases p.0 n)
  where
    there : (x : Name) → IsGood h x → IsGood k x
    there x g = by (name_cases x n)
      where
        by : (x ≡ n) ⊎ (x ≢ n) → IsGood k x
        by (inl e) = subst (IsGood k) (sym e) good
        by (inr apart) = good_other n x h k but apart g

    -- what is good now is n, or not later than the one that was active
    now : (x : Name) → x.package_name ≡ p.0.package_name → IsGood k x → (x ≡ n) ⊎ (x.day ≤ℤ p.0.day)
    now x same g = by (name_cases x n)
      where
        by : (x ≡ n) ⊎ (x ≢ n) → (x ≡ n) ⊎ (x.day ≤ℤ p.0.day)
        by (inl e) = inl e
        by (inr apart) = inr (p.1.1 x same (good_back n x h k but apart g))

    stays : ((x : Name) → x.package_name ≡ p.0.package_name → IsGood k x → x.day ≤ℤ p.0.day) → IsPassed k m
    stays latest = (p.0, (there p.0 p.1.0, latest), p.2)

    older : p.0.day ≤ℤ n.day → (x : Name) → (x ≡ n) ⊎ (x.day ≤ℤ p.0.day) → x.day ≤ℤ n.day
    older le x (inl e) = let d : x.day ≡ n.day = ap (λ y. y.day) e in omega (arith, ints)
    older le x (inr d) = omega (arith, ints)

    newer : n.day <ℤ p.0.day → (x : Name) → (x ≡ n) ⊎ (x.day ≤ℤ p.0.day) → x.day ≤ℤ p.0.day
    newer lt x (inl e) = let d : x.day ≡ n.day = ap (λ y. y.day) e in omega (arith, ints)
    newer lt x (inr d) = d

    elsewhere : p.0.package_name ≢ n.package_name → (x : Name) → x.package_name ≡ p.0.package_name → (x ≡ n) ⊎ (x.day ≤ℤ p.0.day) → x.day ≤ℤ p.0.day
    elsewhere other x same (inl e) = absurd (other (sym same ∙ ap (λ y. y.package_name) e))
    elsewhere other x same (inr d) = d

    by_day : p.0.package_name ≡ n.package_name → (p.0.day ≤ℤ n.day) ⊎ (n.day <ℤ p.0.day) → IsPassed k m
    by_day same (inl le) = (n, (good, λ x s g. older le x (now x (s ∙ sym same) g)), (p.2.0 ∙ same, (let lt : m.day <ℤ p.0.day = p.2.1 in omega (arith, ints))))
    by_day same (inr lt) = stays (λ x s g. newer lt x (now x s g))

    at : (p.0.package_name ≡ n.package_name) ⊎ (p.0.package_name ≢ n.package_name) → IsPassed k m
    at (inl same) = by_day same (day_cases p.0.day n.day)
    at (inr other) = stays (λ x s g. elsewhere other x s (now x s g))

-- what is held after a piece was held before
held_before_piece : (h : History) (n : Name) (first : ℕ) (total : Option ℕ) (bytes : List ℕ) (a : Answer) → is_taken a ≡ true → IsTaken h n first bytes a → (m : Name)
    → IsHeld ((Piece n first total bytes, a) ∷ h) m → IsHeld h m
held_before_piece h n first total bytes a taken is m held = (held.0, λ p. held.1 (by (good_or_not h n first total bytes a taken is.stores) p))
  where
    k : History
    k = (Piece n first total bytes, a) ∷ h

    but : SameBut n h k
    but = keeps_but h n first total bytes a

    before : ¬ (IsGood h n)
    before g = not_whole h n first bytes a is (g.0, g.1)

    by : (IsGood k n) ⊎ (¬ (IsGood k n)) → IsPassed h m → IsPassed k m
    by (inl good) p = passed_on n h k but before good m p
    by (inr bad) p = passed_same h k (goods_but n h k but before bad) m p

-- A release that is recorded: what else is held after it was held before.
held_before_offer : (most : ℕ) (h : History) (n : Name) (size : ℕ) (a : Answer) → IsLegalWith most h → is_noted a ≡ true → IsNoted most h n size → (m : Name) → m ≢ n
    → IsHeld ((Offered n size, a) ∷ h) m
    → IsHeld h m
held_before_offer most h n size a legal noted is m apart held = held_same k h (same_back h k goods) m (added_size n m size a h noted apart) held
  where
    k : History
    k = (Offered n size, a) ∷ h

    bare : (place : ℕ) → kept h n place ≡ None
    bare place = nothing_kept most h legal n (unsized h n size is) place

    but : SameBut n h k
    but = record { size = λ x off. added_size n x size a h noted off; bytes = λ x off place. refl }

    before : ¬ (IsGood h n)
    before g = let e : Some (length g.0) ≡ None = sym g.1.0 ∙ unsized h n size is in absurd (cc)

    now : ¬ (IsGood k n)
    now g = empty_bad (subst (λ (t : List ℕ). fault_of t ≡ None) (only_empty n k bare g.0 g.1) g.2)

    goods : SameGood h k
    goods = goods_but n h k but before now

-- Distinct names, all of them held.

abbrev pub AreHeld : History → List Name → Type 0
AreHeld h ns = AllByRecursion (IsHeld h) ns

abbrev others : Name → List Name → List Name
others n ns = filter (λ m. not (name_eq n m)) ns

others_all : (n : Name) (ns : List Name) → AllByRecursion (λ y. name_eq n y ≡ false) ns → length (others n ns) ≡ length ns
others_all n [] all = refl
others_all n (x ∷ xs) all = rw all.0 (omega (arith, others_all n xs all.1))

-- at most one of them is n
length-others : (n : Name) (ns : List Name) → IsDistinct name_eq ns → length ns ≤ length (others n ns) + 1
length-others n [] d = omega arith
length-others n (x ∷ xs) d = by (name_eq n x) refl (length-others n xs (IsDistinct-tail name_eq x xs d))
  where
    by : (b : Bool) → name_eq n x ≡ b → length xs ≤ length (others n xs) + 1 → length (x ∷ xs) ≤ length (cond (not b) (x ∷ others n xs) (others n xs)) + 1
    by true e again =
        let rest : length (others n xs) ≡ length xs = others_all n xs
        (subst (λ (y : Name). AllByRecursion (λ z. name_eq y z ≡ false) xs) (sym (name_is n x e)) (IsDistinct-head name_eq x xs d)) in omega (arith, rest)
    by false e again = omega (arith, again)

apart_others : (n x : Name) (ns : List Name) → AllByRecursion (λ y. name_eq x y ≡ false) ns → AllByRecursion (λ y. name_eq x y ≡ false) (others n ns)
apart_others n x [] a = tt
apart_others n x (y ∷ ys) a = by (name_eq n y) (apart_others n x ys a.1)
  where
    by : (b : Bool) → AllByRecursion (λ z. name_eq x z ≡ false) (others n ys) → AllByRecursion (λ z. name_eq x z ≡ false) (cond (not b) (y ∷ others n ys) (others n ys))
    by true again = again
    by false again = (a.0, again)

distinct-others : (n : Name) (ns : List Name) → IsDistinct name_eq ns → IsDistinct name_eq (others n ns)
distinct-others n [] d = d
distinct-others n (x ∷ xs) d = by (name_eq n x) (distinct-others n xs (IsDistinct-tail name_eq x xs d))
  where
    by : (b : Bool) → IsDistinct name_eq (others n xs) → IsDistinct name_eq (cond (not b) (x ∷ others n xs) (others n xs))
    by true again = again
    by false again = IsDistinct-cons name_eq x (others n xs) (apart_others n x xs (IsDistinct-head name_eq x xs d)) again

held-others : (h k : History) (n : Name) → ((m : Name) → m ≢ n → IsHeld k m → IsHeld h m) → (ns : List Name) → AreHeld k ns → AreHeld h (others n ns)
held-others h k n back [] held = tt
held-others h k n back (x ∷ xs) held = by (name_eq n x) refl (held-others h k n back xs held.1)
  where
    by : (b : Bool) → name_eq n x ≡ b → AreHeld h (others n xs) → AreHeld h (cond (not b) (x ∷ others n xs) (others n xs))
    by true e again = again
    by false e again = (back x (λ same. name_not n x e (sym same)) held.0, again)

held_back : (h k : History) → ((m : Name) → IsHeld k m → IsHeld h m) → (ns : List Name) → AreHeld k ns → AreHeld h ns
held_back h k back [] held = tt
held_back h k back (x ∷ xs) held = (back x held.0, held_back h k back xs held.1)

apart_from : (m : Name) (ns : List Name) → list_any (name_eq m) ns ≡ false → AllByRecursion (λ y. name_eq m y ≡ false) ns
apart_from m [] e = tt
apart_from m (x ∷ xs) e = by (name_eq m x) refl (apart_from m xs)
  where
    by : (b : Bool) → name_eq m x ≡ b → (list_any (name_eq m) xs ≡ false → AllByRecursion (λ y. name_eq m y ≡ false) xs) → AllByRecursion (λ y. name_eq m y ≡ false) (x ∷ xs)
    by true t again = absurd (let u : true ≡ false = rw t at e in cc)
    by false t again = (t, again (rw t at e))

held_in : (h : History) (ns : List Name) → AreHeld h ns → (m : Name) → list_any (name_eq m) ns ≡ true → IsHeld h m
held_in h [] held m e = absurd (let u : false ≡ true = e in cc)
held_in h (x ∷ xs) held m e = by (name_eq m x) refl (held_in h xs held.1 m)
  where
    by : (b : Bool) → name_eq m x ≡ b → (list_any (name_eq m) xs ≡ true → IsHeld h m) → IsHeld h m
    by true t again = subst (IsHeld h) (sym (name_is m x t)) held.0
    by false t again = again (rw t at e)

-- as many as may be held are all that are held
all_held : (most : ℕ) (h : History) (ns : List Name) → ((ms : List Name) → IsDistinct name_eq ms → AreHeld h ms → length ms ≤ most) → IsDistinct name_eq ns → AreHeld h ns
    → length ns ≡ most → HoldsNumber h most
all_held most h ns few d held full = (ns, d, λ m. (there m, λ has. held_in h ns held m (list_any-from_Contains name_laws m ns has)), full)
  where
    there : (m : Name) → IsHeld h m → Contains ns m
    there m is = by (list_any (name_eq m) ns) refl
      where
        by : (b : Bool) → list_any (name_eq m) ns ≡ b → Contains ns m
        by true e = Contains-from_any name_is m ns e
        by false e = absurd (omega (arith, few (m ∷ ns) (IsDistinct-cons name_eq m ns (apart_from m ns e) d) (is, held)))

pub held_limit : (most : ℕ) (h : History) → IsLegalWith most h → (ns : List Name) → IsDistinct name_eq ns → AreHeld h ns → length ns ≤ most
held_limit most [] legal [] d held = omega arith
held_limit most [] legal (x ∷ xs) d held = absurd (let u : false ≡ true = held.0.0 in cc)
held_limit most ((Offered n size, a) ∷ h) legal ns d held = by (is_noted a) refl (held_limit most h legal.1)
  where
    k : History
    k = (Offered n size, a) ∷ h

    still : is_noted a ≡ false → IsStill h k
    still out = record { size = λ m. rw out refl; bytes = λ m place. refl }

    room : (is_noted a ≡ true) → ((ms : List Name) → IsDistinct name_eq ms → AreHeld h ms → length ms ≤ most) → AreHeld h (others n ns)
        → (length (others n ns) ≡ most) ⊎ (length (others n ns) < most) → length ns ≤ most
    room noted few before (inl full) = absurd ((noted_by most h n size a noted legal.0).room (all_held most h (others n ns) few (distinct-others n ns d) before full))
    room noted few before (inr less) = omega (arith, length-others n ns d)

    by : (b : Bool) → is_noted a ≡ b → ((ms : List Name) → IsDistinct name_eq ms → AreHeld h ms → length ms ≤ most) → length ns ≤ most
    by true noted few =
        let before : AreHeld h (others n ns) = held-others h k n (held_before_offer most h n size a legal.1 noted (noted_by most h n size a noted legal.0)) ns held in
        let le : length (others n ns) ≤ most = few (others n ns) (distinct-others n ns d) before in
        room noted few before (grind (arith, le))
    by false out few = few ns d (held_back h k (λ m is. held_same k h (same_back h k (goods_still h k (still out))) m ((still out).size m) is) ns held)
held_limit most ((Piece n first total bytes, a) ∷ h) legal ns d held = by (is_taken a) refl (held_limit most h legal.1 ns d)
  where
    k : History
    k = (Piece n first total bytes, a) ∷ h

    still : is_taken a ≡ false → IsStill h k
    still out = record { size = λ m. refl; bytes = λ m place. rw out refl }

    by : (b : Bool) → is_taken a ≡ b → (AreHeld h ns → length ns ≤ most) → length ns ≤ most
    by true taken few = few (held_back h k (held_before_piece h n first total bytes a taken (taken_by most h n first total bytes a taken legal.0)) ns held)
    by false out few = few (held_back h k (λ m is. held_same k h (same_back h k (goods_still h k (still out))) m refl is) ns held)
held_limit most ((Lost n, a) ∷ h) legal ns d held =
    held_limit most h legal.1 ns d (held_back h ((Lost n, a) ∷ h) (λ m is. held_same ((Lost n, a) ∷ h) h
    (same_back h ((Lost n, a) ∷ h) (goods_still h ((Lost n, a) ∷ h) (record { size = λ x. refl; bytes = λ x place. refl }))) m refl is) ns held)
