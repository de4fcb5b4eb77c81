-- Removing the releases of earlier days, one after another; and what is left of them.
use Rattle.std.proofs.Common.{◌≡◌, ◌<◌, ◌≤◌, ◌+◌, ◌++◌, ◌∙◌, ◌==◌, ◌↔◌, ℕ, zero, suc, Bool, true, false, IsTrue, not, List, [], ◌∷◌, Option, Some}
use Rattle.std.proofs.Common.{length, get_or, take, drop, filter, refl, sym, ap, arith}
use Rattle.std.proofs.lemmas.Bool.{eqb-true}
use Rattle.std.proofs.lemmas.List.{length-append, length-drop, length-take}
use Rattle.std.proofs.lemmas.List.Sums.{sum_by-cons, sum_by_push}
use Rattle.feed_names.specs.ReleaseName.{Name}
use Rattle.feed_model.specs.Change.{is_earlier, without_earlier}
use Rattle.feed_releases.specs.declared.ahead.Ahead.{Ahead}
use Rattle.feed_releases.specs.declared.leftovers.Leftover.{Leftover}
use Rattle.feed_releases.specs.ReleaseValue.{ReleaseValue, content_of}
use Rattle.feed_releases.specs.FileCheck.{unread_of}
use Rattle.feed_releases.specs.Work.{unread_in}
use Rattle.feed_releases.proofs.Finding.{content_of-filter}
use Rattle.feed_releases.proofs.ReadAhead.{unread_here}
use Rattle.feed_releases.specs.Leftovers.{left_of, left_of_all}

module _ {X : Type 0} (keeps : X → Bool) where
  -- the first ones all remain
  abbrev pub Remain : List X → ℕ → Type 0
  Remain xs zero = Unit {0}
  Remain [] (suc n) = Unit {0}
  Remain (x ∷ xs) (suc n) = (keeps x ≡ true) × Remain xs n

  pub remain_next : (xs : List X) (n : ℕ) (d : X) → Remain xs n → n < length xs → keeps (get_or xs n d) ≡ true → Remain xs (suc n)
  remain_next [] n d so lt is = absurd (omega (arith, lt))
  remain_next (x ∷ xs) zero d so lt is = (is, tt)
  remain_next (x ∷ xs) (suc n) d so lt is = (so.0, remain_next xs n d so.1 (omega (arith, lt)) is)

  pub remain_removed : (xs : List X) (n : ℕ) → Remain xs n → Remain (take n xs ++ drop (suc n) xs) n
  remain_removed xs zero so = tt
  remain_removed [] (suc n) so = tt
  remain_removed (x ∷ xs) (suc n) so = (so.0, remain_removed xs n so.1)

  filter_on : (x : X) (xs ys : List X) (b : Bool) → keeps x ≡ b → filter keeps ys ≡ filter keeps xs → filter keeps (x ∷ ys) ≡ filter keeps (x ∷ xs)
  filter_on x xs ys true e same = rw e (ap (λ (zs : List X). x ∷ zs) same)
  filter_on x xs ys false e same = rw e same

  pub filter_removed : (xs : List X) (n : ℕ) (d : X) → n < length xs → keeps (get_or xs n d) ≡ false → filter keeps (take n xs ++ drop (suc n) xs) ≡ filter keeps xs
  filter_removed [] n d lt is = absurd (omega (arith, lt))
  filter_removed (x ∷ xs) zero d lt is = rw is refl
  filter_removed (x ∷ xs) (suc n) d lt is = filter_on x xs (take n xs ++ drop (suc n) xs) (keeps x) refl (filter_removed xs n d (omega (arith, lt)) is)

  pub remain_all : (xs : List X) (n : ℕ) → Remain xs n → length xs ≤ n → filter keeps xs ≡ xs
  remain_all [] n so le = refl
  remain_all (x ∷ xs) zero so le = absurd (omega (arith, le))
  remain_all (x ∷ xs) (suc n) so le = rw so.0 (ap (λ (ys : List X). x ∷ ys) (remain_all xs n so.1 (omega (arith, le))))

-- the release is not of an earlier day than the name, in its package
abbrev pub stays : Name → ReleaseValue → Bool
stays n r = not (is_earlier r.kept.name n)

-- the releases that are not yet looked at are the same, and those that stay
pub record AreDropped (n : Name) (all rs : List ReleaseValue) (at : ℕ) : Type 0 where
  pub front : Remain (stays n) rs at
  pub same : filter (stays n) rs ≡ filter (stays n) all
  pub fewer : length rs ≤ length all

pub dropped_start : (n : Name) (all : List ReleaseValue) → AreDropped n all all 0
dropped_start n all = record { front = tt; same = refl; fewer = omega arith }

pub dropped_one : (n : Name) (all rs now : List ReleaseValue) (at : ℕ) (r : ReleaseValue) → AreDropped n all rs at → at < length rs → r ≡ get_or rs at r → is_earlier r.kept.name n ≡ true
    → now ≡ take at rs ++ drop (suc at) rs → AreDropped n all now at
dropped_one n all rs now at r so within here earlier is = rw is (record {
  front = remain_removed (stays n) rs at so.front;
  same = filter_removed (stays n) rs at r within (ap (λ (x : ReleaseValue). stays n x) (sym here) ∙ ap not earlier) ∙ so.same;
  fewer = omega (arith, so.fewer, within, length-append (take at rs) (drop (suc at) rs), length-take at rs, length-drop (suc at) rs);
})

pub dropped_none : (n : Name) (all rs : List ReleaseValue) (at : ℕ) (r : ReleaseValue) → AreDropped n all rs at → at < length rs → r ≡ get_or rs at r → is_earlier r.kept.name n ≡ false
    → AreDropped n all rs (at + 1)
dropped_none n all rs at r so within here later =
    let next : at + 1 ≡ suc at = omega arith in
    rw next (record {
      front = remain_next (stays n) rs at r so.front within (ap (λ (x : ReleaseValue). stays n x) (sym here) ∙ ap not later);
      same = so.same;
      fewer = so.fewer;
    })

pub dropped_all : (n : Name) (all rs : List ReleaseValue) (at : ℕ) → AreDropped n all rs at → length rs ≤ at → content_of rs ≡ without_earlier n (content_of all)
dropped_all n all rs at so end =
    ap content_of (sym (remain_all (stays n) rs at so.front end) ∙ so.same) ∙ content_of-filter (λ (m : Name). not (is_earlier m n)) all

-- what is left of all but the last
pub left_before : (all others : List Leftover) (last : Leftover) → all ≡ others ++ last ∷ [] → left_of_all all ≡ left_of_all others + (left_of last + 1)
left_before all others last is = rw is (sum_by_push (λ (l : Leftover). left_of l + 1) others last)

-- there is something left exactly if the list is not empty
pub some_left : (all : List Leftover) → 0 < length all → 0 < left_of_all all
some_left [] lt = lt
some_left (x ∷ xs) lt = omega (arith, sum_by-cons (λ (l : Leftover). left_of l + 1) x xs)

pub none_left : (all : List Leftover) → length all ≡ 0 → left_of_all all ≡ 0
none_left [] none = refl
none_left (x ∷ xs) none = absurd (omega (arith, none))

pub empty_len : (n : ℕ) (empty : Bool) → empty ≡ (n == 0) → empty ≡ true → n ≡ 0
empty_len n empty is e = eqb-true n 0 (sym is ∙ e)

pub some_len : (n : ℕ) (empty : Bool) → empty ≡ (n == 0) → empty ≡ false → 0 < n
some_len zero empty is e = absurd (let f : true ≡ false = sym is ∙ e in cc)
some_len (suc n) empty is e = omega arith

-- with nothing to free, there is work exactly if there is something to read
pub work_here : (rs : List ReleaseValue) (old : Option Ahead) (ahead : Ahead) (r : ReleaseValue) (leftovers : List Leftover) (more : Bool) → old ≡ Some ahead → ahead.at < length rs
    → r ≡ get_or rs ahead.at r → left_of_all leftovers ≡ 0 → IsTrue more ↔ (0 < unread_of r.kept ahead.running) → IsTrue more ↔ (0 < unread_in rs old + left_of_all leftovers)
work_here rs old ahead r leftovers more is within here none so =
    let same : unread_in rs old ≡ unread_of r.kept ahead.running = ap (unread_in rs) is ∙ unread_here rs ahead r within here in
    (λ t. omega (arith, so.0 t, same, none), λ some. so.1 (omega (arith, some, same, none)))

-- the work that is left is less after some of it was read or freed
pub read_work : (unread rest left more : ℕ) → more ≡ left → left ≡ 0 → (0 < rest → rest < unread) → 0 < rest + more → rest + more < unread + left
read_work unread rest left more same none less some = omega (arith, same, none, less (omega (arith, some, same, none)))

pub free_work : (unread left more : ℕ) → more < left → unread + more < unread + left
free_work unread left more less = omega (arith, less)
