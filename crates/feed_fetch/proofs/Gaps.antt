-- Gaps that are filled request by request.
use Rattle.std.proofs.Common.{◌≡◌, ◌<◌, ◌≤◌, ◌+◌, ◌-◌, ◌*◌, ◌⊎◌, ℕ, zero, suc, Bool, true, false, Option, Some, None, IsSome, inl, inr, refl, sym, ◌∙◌, ap, subst, arith}
use Rattle.std.specs.Prelude.{nat_le, nat_lt}
use Rattle.std.specs.Int.{div_ceil}
use Rattle.std.proofs.lemmas.Grind.{div_ceil_times}
use Rattle.std.proofs.lemmas.Nat.{mul-le}
use Rattle.std.proofs.lemmas.Bool.Decides.{nat_tests}
use native.Mathlib.Nat.{add-mul}
use Rattle.feed_model.proofs.Bytes.{some_none}
use Rattle.feed_releases.specs.NextRange.{IsNext}
use Rattle.feed_fetch.specs.Gaps.{gaps_below, requests_for}

-- division that rounds up
lt_cancel : (a b p : ℕ) → a * p < b * p → a < b
lt_cancel a b p lt = by (nat_le b a) refl
  where
    by : (x : Bool) → nat_le b a ≡ x → a < b
    by true e = let le : b ≤ a = grind (arith, nat_tests, e) in let more = mul-le b p a p le (omega arith) in absurd (omega (arith, lt, more))
    by false e = grind (arith, nat_tests, e)

pub ceil_none : (p : ℕ) → 1 ≤ p → div_ceil 0 p ≡ 0
ceil_none p some =
    let q = div_ceil_times 0 p (omega (arith, some)) in
    let one : 1 * p ≡ p = omega arith in
    let few = lt_cancel (div_ceil 0 p) 1 p (omega (arith, q.1, one)) in
    omega (arith, few)

ceil_some : (gap p : ℕ) → 1 ≤ p → 0 < gap → 0 < div_ceil gap p
ceil_some gap p least some = by (div_ceil gap p) refl
  where
    by : (q : ℕ) → div_ceil gap p ≡ q → 0 < q
    by zero e = let q = div_ceil_times gap p (omega (arith, least)) in let none : 0 * p ≡ 0 = omega arith in absurd (let all = rw e at q.0 in omega (arith, all, none, some))
    by (suc q) e = omega arith

ceil_one : (gap p : ℕ) → 1 ≤ gap → gap ≤ p → div_ceil gap p ≡ 1
ceil_one gap p some few =
    let q = div_ceil_times gap p (omega (arith, some, few)) in
    let two : 2 * p ≡ p + p = omega arith in
    let less = lt_cancel (div_ceil gap p) 2 p (omega (arith, q.1, two, few)) in
    let more = ceil_some gap p (omega (arith, some, few)) (omega (arith, some)) in
    omega (arith, less, more)

ceil_more : (gap p : ℕ) → 1 ≤ p → div_ceil (gap + p) p ≡ suc (div_ceil gap p)
ceil_more gap p some =
    let q = div_ceil_times gap p (omega (arith, some)) in
    let r = div_ceil_times (gap + p) p (omega (arith, some)) in
    let sum = add-mul (div_ceil gap p) 2 p in
    let less = lt_cancel (div_ceil (gap + p) p) (div_ceil gap p + 2) p (omega (arith, r.1, q.0, sum)) in
    let more = lt_cancel (div_ceil gap p) (div_ceil (gap + p) p) p (omega (arith, q.1, r.0)) in
    omega (arith, less, more)

ceil_most : (gap p : ℕ) → 1 ≤ p → div_ceil gap p ≤ gap
ceil_most gap p some =
    let q = div_ceil_times gap p (omega (arith, some)) in
    let sum = add-mul gap 1 p in
    let one : 1 * p ≡ p = omega arith in
    let self : gap * 1 ≡ gap = omega arith in
    let wide = mul-le gap 1 gap p (omega arith) some in
    let less = lt_cancel (div_ceil gap p) (gap + 1) p (omega (arith, q.1, sum, one, self, wide)) in
    omega (arith, less)

-- the requests for the gaps below a place
abbrev pub needed : ℕ → (ℕ → Option ℕ) → ℕ → ℕ → ℕ
needed piece at place run = requests_for piece (gaps_below at place run)

needed_none : (piece : ℕ) (at : ℕ → Option ℕ) (place run : ℕ) → at place ≡ None → needed piece at (suc place) run ≡ needed piece at place (suc run)
needed_none piece at place run e = rw e refl

needed_some : (piece : ℕ) (at : ℕ → Option ℕ) (place run byte : ℕ) → at place ≡ Some byte → needed piece at (suc place) run ≡ div_ceil run piece + needed piece at place 0
needed_some piece at place run byte e = rw e refl

-- places that are all stored need no request
pub needed_before : (piece : ℕ) (at : ℕ → Option ℕ) (n run : ℕ) → 1 ≤ piece → ((place : ℕ) → place < n → IsSome (at place)) → needed piece at n run ≡ div_ceil run piece
needed_before piece at zero run least all = omega arith
needed_before piece at (suc n) run least all = by (at n) refl (needed_before piece at n 0 least (λ place lt. all place (omega (arith, lt))))
  where
    by : (x : Option ℕ) → at n ≡ x → needed piece at n 0 ≡ div_ceil 0 piece → needed piece at (suc n) run ≡ div_ceil run piece
    by None e rest = absurd (some_none (at n) (all n (omega arith)) e)
    by (Some byte) e rest =
        let none = ceil_none piece least in
        let here = needed_some piece at n run byte e in
        omega (arith, here, rest, none)

-- places that are all missing
pub needed_run : (piece : ℕ) (at : ℕ → Option ℕ) (first count run : ℕ) → ((place : ℕ) → first ≤ place → place < first + count → at place ≡ None)
    → needed piece at (first + count) run ≡ needed piece at first (count + run)
needed_run piece at first zero run none = let e : first + 0 ≡ first = omega arith in let d : 0 + run ≡ run = omega arith in rw (e, d) refl
needed_run piece at first (suc count) run none =
    let e : first + suc count ≡ suc (first + count) = omega arith in
    let d : suc count + run ≡ count + suc run = omega arith in
    ap (λ (n : ℕ). needed piece at n run) e ∙ needed_none piece at (first + count) run (none (first + count) (omega arith) (omega arith))
    ∙ needed_run piece at first count (suc run) (λ place from below. none place from (omega (arith, below))) ∙ ap (needed piece at first) (sym d)

-- a missing place needs a request
needed_open : (piece : ℕ) (at : ℕ → Option ℕ) (n run : ℕ) → 1 ≤ piece → 0 < run → 0 < needed piece at n run
needed_open piece at zero run least some = let c = ceil_some run piece least some in omega (arith, c)
needed_open piece at (suc n) run least some = by (at n) refl (needed_open piece at n (suc run) least (omega arith))
  where
    by : (x : Option ℕ) → at n ≡ x → 0 < needed piece at n (suc run) → 0 < needed piece at (suc n) run
    by None e more = let here = needed_none piece at n run e in omega (arith, here, more)
    by (Some byte) e more = let here = needed_some piece at n run byte e in let c = ceil_some run piece least some in omega (arith, here, c)

pub needed_missing : (piece : ℕ) (at : ℕ → Option ℕ) (n run place : ℕ) → 1 ≤ piece → place < n → at place ≡ None → 0 < needed piece at n run
needed_missing piece at zero run place least lt none = absurd (omega (arith, lt))
needed_missing piece at (suc n) run place least lt none = by (at n) refl (nat_lt place n) refl (λ less. needed_missing piece at n 0 place least less none)
  where
    by : (x : Option ℕ) → at n ≡ x → (b : Bool) → nat_lt place n ≡ b → (place < n → 0 < needed piece at n 0) → 0 < needed piece at (suc n) run
    by None e b d rest = let here = needed_none piece at n run e in let more = needed_open piece at n (suc run) least (omega arith) in omega (arith, here, more)
    by (Some byte) e true d rest =
        let here = needed_some piece at n run byte e in
        let more = rest (grind (arith, nat_tests, d)) in
        omega (arith, here, more)
    by (Some byte) e false d rest =
        let same : place ≡ n = grind (arith, nat_tests, d, lt) in
        absurd (let f : at n ≡ None = ap at (sym same) ∙ none in let g : None ≡ Some byte = sym f ∙ e in cc)

-- there are no more requests than places
pub needed_most : (piece : ℕ) (at : ℕ → Option ℕ) (n run : ℕ) → 1 ≤ piece → needed piece at n run ≤ n + run
needed_most piece at zero run least = let c = ceil_most run piece least in omega (arith, c)
needed_most piece at (suc n) run least = by (at n) refl (needed_most piece at n (suc run) least) (needed_most piece at n 0 least)
  where
    by : (x : Option ℕ) → at n ≡ x → needed piece at n (suc run) ≤ n + suc run → needed piece at n 0 ≤ n + 0 → needed piece at (suc n) run ≤ suc n + run
    by None e more rest = let here = needed_none piece at n run e in omega (arith, here, more)
    by (Some byte) e more rest = let here = needed_some piece at n run byte e in let c = ceil_most run piece least in omega (arith, here, rest, c)

-- places with the same bytes need the same requests
pub needed_same : (piece : ℕ) (f g : ℕ → Option ℕ) (n run : ℕ) → ((place : ℕ) → f place ≡ g place) → needed piece f n run ≡ needed piece g n run
needed_same piece f g zero run same = refl
needed_same piece f g (suc n) run same = by (f n) (g n) refl refl (needed_same piece f g n (suc run) same) (needed_same piece f g n 0 same)
  where
    by : (x y : Option ℕ) → f n ≡ x → g n ≡ y → needed piece f n (suc run) ≡ needed piece g n (suc run) → needed piece f n 0 ≡ needed piece g n 0
        → needed piece f (suc n) run ≡ needed piece g (suc n) run
    by None None e d more rest = needed_none piece f n run e ∙ more ∙ sym (needed_none piece g n run d)
    by (Some a) (Some b) e d more rest =
        let here = needed_some piece f n run a e in
        let there = needed_some piece g n run b d in
        omega (arith, here, there, rest)
    by None (Some b) e d more rest = absurd (let c : None ≡ Some b = sym e ∙ same n ∙ d in cc)
    by (Some a) None e d more rest = absurd (let c : None ≡ Some a = sym d ∙ sym (same n) ∙ e in cc)

-- the range of the next request is filled, and nothing else changes
pub record IsFilledNext (f g : ℕ → Option ℕ) (first last : ℕ) : Type 0 where
  pub below : (place : ℕ) → place ≤ last → IsSome (g place)
  pub above : (place : ℕ) → last < place → f place ≡ g place

-- so one request fewer is needed
pub needed_fewer : (piece size first last : ℕ) (f g : ℕ → Option ℕ) → 1 ≤ piece → IsNext f size piece first last → IsFilledNext f g first last
    → needed piece f size 0 ≡ suc (needed piece g size 0)
needed_fewer piece size first last f g least next filled =
    let e : suc last + (size - suc last) ≡ size = (let w = next.within in omega (arith, w)) in
    subst (λ (n : ℕ). needed piece f n 0 ≡ suc (needed piece g n 0)) e (above (size - suc last) 0 (let w = next.within in omega (arith, w)) (λ none. inl refl))
  where
    count : ℕ
    count = suc last - first

    ends : first + count ≡ suc last
    ends = let o = next.order in omega (arith, o)

    at_end : (run : ℕ) → (run ≡ 0) ⊎ (count ≡ piece) → needed piece f (suc last) run ≡ suc (needed piece g (suc last) run)
    at_end run is =
        let before : needed piece f (suc last) run ≡ div_ceil (count + run) piece = ap (λ (n : ℕ). needed piece f n run) (sym ends)
        ∙ needed_run piece f first count run (λ place from below. next.missing place from (omega (arith, below, ends))) ∙ needed_before piece f first (count + run) least next.before in
        let after : needed piece g (suc last) run ≡ div_ceil run piece = needed_before piece g (suc last) run least (λ place lt. filled.below place (omega (arith, lt))) in
        before ∙ by is ∙ ap suc (sym after)
      where
        by : (run ≡ 0) ⊎ (count ≡ piece) → div_ceil (count + run) piece ≡ suc (div_ceil run piece)
        by (inl none) =
            let sum : count + run ≡ count = omega (arith, none) in
            ap (λ (n : ℕ). div_ceil n piece) sum ∙ ceil_one count piece (let o = next.order in omega (arith, o)) (let w = next.few in let o = next.order in omega (arith, w, o))
            ∙ ap suc (sym (ap (λ (n : ℕ). div_ceil n piece) none ∙ ceil_none piece least))
        by (inr whole) = let sum : count + run ≡ run + piece = omega (arith, whole) in ap (λ (n : ℕ). div_ceil n piece) sum ∙ ceil_more run piece least

    -- a range that ends before its gap does has the most places
    full : suc last < size → f (suc last) ≡ None → count ≡ piece
    full inside none = by (nat_lt (suc last) (first + piece)) refl
      where
        by : (b : Bool) → nat_lt (suc last) (first + piece) ≡ b → count ≡ piece
        by true d = absurd (some_none (f (suc last)) (next.greatest (grind (arith, nat_tests, d)) inside) none)
        by false d = let w = next.few in let o = next.order in let t : first + piece ≤ suc last = grind (arith, nat_tests, d) in omega (arith, w, o, t)

    above : (more run : ℕ) → suc last + more ≤ size → (more ≡ 0 → (run ≡ 0) ⊎ (count ≡ piece)) → needed piece f (suc last + more) run ≡ suc (needed piece g (suc last + more) run)
    above zero run within is = let e : suc last + 0 ≡ suc last = omega arith in subst (λ (n : ℕ). needed piece f n run ≡ suc (needed piece g n run)) (sym e) (at_end run (is refl))
    above (suc more) run within is = by (f (suc last + more)) (g (suc last + more)) refl refl (λ r w i. above more r w i)
      where
        e : suc last + suc more ≡ suc (suc last + more)
        e = omega arith

        by : (x y : Option ℕ) → f (suc last + more) ≡ x → g (suc last + more) ≡ y
            → ((r : ℕ) → suc last + more ≤ size → (more ≡ 0 → (r ≡ 0) ⊎ (count ≡ piece)) → needed piece f (suc last + more) r ≡ suc (needed piece g (suc last + more) r))
            → needed piece f (suc last + suc more) run ≡ suc (needed piece g (suc last + suc more) run)
        by None None d b rest = subst (λ (n : ℕ). needed piece f n run ≡ suc (needed piece g n run)) (sym e) (needed_none piece f (suc last + more) run d
            ∙ rest (suc run) (omega (arith, within))
            (λ none. let s : suc last + more ≡ suc last = omega (arith, none) in inr (full (omega (arith, within, none)) (ap f (sym s) ∙ d)))
            ∙ ap suc (sym (needed_none piece g (suc last + more) run b)))
        by (Some u) (Some v) d b rest =
            let here = needed_some piece f (suc last + more) run u d in
            let there = needed_some piece g (suc last + more) run v b in
            let same = rest 0 (omega (arith, within)) (λ none. inl refl) in
            subst (λ (n : ℕ). needed piece f n run ≡ suc (needed piece g n run)) (sym e) (omega (arith, here, there, same))
        by None (Some v) d b rest = absurd (let c : None ≡ Some v = sym d ∙ filled.above (suc last + more) (omega arith) ∙ b in cc)
        by (Some u) None d b rest = absurd (let c : None ≡ Some u = sym b ∙ sym (filled.above (suc last + more) (omega arith)) ∙ d in cc)
