-- The place of an active release among others, which are in order.
use Rattle.std.proofs.Common.{◌≡◌, ◌<◌, ◌≤◌, ◌+◌, ℕ, zero, suc, Bool, List, [], ◌∷◌, length, get_or, insert, true, false, refl, ap, arith, subst, sym, ◌∙◌}
use Rattle.std.proofs.Common.{Ordering, Less, Equal, Greater, is_lt}
use Rattle.std.specs.Cmp.{IsTotalOrder}
use Rattle.std.specs.Cmp.Lexicographic.{bytes_decides, on_texts, slice_cmp}
use Rattle.std.specs.Ordering.{is_eq, nat_cmp, ordering_reverse}
use Rattle.std.specs.List.{AllByRecursion}
use Rattle.std.proofs.lemmas.Map.Text.{is_eq-slice_cmp}
use Rattle.feed_releases.specs.Actives.{ActiveValue, AreInOrder, package_cmp, is_package_before, insert_active}
use Rattle.feed_releases.proofs.ActivesReported.{put_in}

-- it goes behind those whose packages come before its own
pub insert_at : (xs : List ActiveValue) (i : ℕ) (a : ActiveValue) → i ≤ length xs → ((k : ℕ) (d : ActiveValue) → k < i → is_package_before (get_or xs k d) a ≡ true)
    → ((k : ℕ) (d : ActiveValue) → i ≤ k → k < length xs → is_package_before (get_or xs k d) a ≡ false) → insert xs i a ≡ insert_active a xs
insert_at [] zero a le before late = refl
insert_at [] (suc i) a le before late = absurd (omega arith)
insert_at (x ∷ xs) zero a le before late =
    let later : is_package_before x a ≡ false = late 0 x (omega arith) (omega arith) in
    rw later refl
insert_at (x ∷ xs) (suc i) a le before late = rw (before 0 x (omega arith))
    (ap (λ ys. x ∷ ys) (insert_at xs i a (omega arith) (λ k d lt. before (suc k) d (omega arith)) (λ k d le lt. late (suc k) d (omega arith) (omega arith))))

-- ---- the order of packages

pub by_packages : IsTotalOrder package_cmp
by_packages = on_texts (λ (a : ActiveValue). a.name.package_name)

-- where y comes no earlier than x, and before a, x comes before a
before_both : (x y a : ActiveValue) → is_package_before y x ≡ false → is_package_before y a ≡ true → is_package_before x a ≡ true
before_both x y a late before = by (package_cmp y x) refl
  where
    less : (o : Ordering) → is_lt o ≡ true → o ≡ Less
    less Less e = refl
    less Equal e = absurd (cc)
    less Greater e = absurd (cc)

    by : (o : Ordering) → package_cmp y x ≡ o → is_package_before x a ≡ true
    by Less is = absurd (let no : true ≡ false = rw is at late in cc)
    by Equal is =
        let same : y.name.package_name ≡ x.name.package_name = (bytes_decides y.name.package_name x.name.package_name).0
        (sym (is_eq-slice_cmp y.name.package_name x.name.package_name) ∙ ap is_eq is) in
        subst (λ (key : List ℕ). is_lt (slice_cmp nat_cmp key a.name.package_name) ≡ true) same before
    by Greater is =
        let first : package_cmp x y ≡ Less = by_packages.antisymm x y ∙ ap ordering_reverse is in
        ap is_lt (by_packages.trans x y a first (less (package_cmp y a) before))

-- where c comes no earlier than b, and b no earlier than a, c comes no earlier than a
late_both : (a b c : ActiveValue) → is_package_before b a ≡ false → is_package_before c b ≡ false → is_package_before c a ≡ false
late_both a b c one other = by (is_package_before c a) refl
  where
    by : (x : Bool) → is_package_before c a ≡ x → x ≡ false
    by false e = refl
    by true e = absurd (let before = before_both b c a other e in cc)

late_all : (a b : ActiveValue) (actives : List ActiveValue) → is_package_before b a ≡ false → AllByRecursion (λ c. is_package_before c b ≡ false) actives
    → AllByRecursion (λ c. is_package_before c a ≡ false) actives
late_all a b [] late all = tt
late_all a b (c ∷ actives) late all = (late_both a b c late all.0, late_all a b actives late all.1)

-- of two, one comes no earlier than the other
not_both : (a b : ActiveValue) → is_package_before b a ≡ true → is_package_before a b ≡ false
not_both a b before = by (package_cmp a b) refl
  where
    by : (o : Ordering) → package_cmp a b ≡ o → is_package_before a b ≡ false
    by Equal is = rw is refl
    by Greater is = rw is refl
    by Less is = absurd (let back : package_cmp b a ≡ Greater = by_packages.antisymm b a ∙ ap ordering_reverse is in let no : false ≡ true = rw back at before in cc)

-- they stay in order with one more
pub order_inserted : (a : ActiveValue) (actives : List ActiveValue) → AreInOrder actives → AreInOrder (insert_active a actives)
order_inserted a [] order = (tt, tt)
order_inserted a (b ∷ actives) order = by (is_package_before b a) refl (order_inserted a actives order.1)
  where
    by : (x : Bool) → is_package_before b a ≡ x → AreInOrder (insert_active a actives) → AreInOrder (insert_active a (b ∷ actives))
    by true e rest = rw e (put_in (λ c. is_package_before c b ≡ false) a actives (not_both a b e) order.0, rest)
    by false e rest = rw e ((e, late_all a b actives e order.0), order)

pub late_at : (x : ActiveValue) (xs : List ActiveValue) (i : ℕ) (d : ActiveValue) → AllByRecursion (λ b. is_package_before b x ≡ false) xs → i < length xs
    → is_package_before (get_or xs i d) x ≡ false
late_at x [] i d all lt = absurd (omega arith)
late_at x (y ∷ ys) zero d all lt = all.0
late_at x (y ∷ ys) (suc i) d all lt = late_at x ys i d all.1 (omega arith)

-- where one comes before another release, so do those in front of it
pub before_all : (xs : List ActiveValue) (i : ℕ) (y a : ActiveValue) → AreInOrder xs → i < length xs → y ≡ get_or xs i y → is_package_before y a ≡ true
    → (k : ℕ) (d : ActiveValue) → k < i + 1 → is_package_before (get_or xs k d) a ≡ true
before_all [] i y a order lt is before k d less = absurd (omega arith)
before_all (x ∷ xs) zero y a order lt is before zero d less = subst (λ (z : ActiveValue). is_package_before z a ≡ true) is before
before_all (x ∷ xs) zero y a order lt is before (suc k) d less = absurd (omega arith)
before_all (x ∷ xs) (suc i) y a order lt is before zero d less =
    before_both x y a (subst (λ (z : ActiveValue). is_package_before z x ≡ false) (sym is) (late_at x xs i y order.0 (omega arith))) before
before_all (x ∷ xs) (suc i) y a order lt is before (suc k) d less = before_all xs i y a order.1 (omega arith) is before k d (omega arith)
