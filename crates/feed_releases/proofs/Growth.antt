-- A release that grows, in the list of releases.
use Rattle.std.proofs.Common.{◌≡◌, ◌≢◌, ◌≤◌, ◌<◌, ℕ, zero, suc, List, [], ◌∷◌, length, get_or, set, Some, refl, sym, ◌∙◌, ap, subst, arith, true}
use Rattle.feed_names.specs.ReleaseName.{Name, name_eq}
use Rattle.feed_kbart.specs.declared.fault.BadFile.TheVariants.{NoHeader}
use Rattle.feed_model.specs.Reply.{max_file, missing_below}
use Rattle.feed_model.specs.Content.{Part, Record, record_of, byte_in}
use Rattle.feed_model.specs.Change.{changed}
use Rattle.feed_model.proofs.Names.{name_is}
use Rattle.feed_model.proofs.Faults.{fault_of-empty}
use Rattle.feed_model.specs.Parts.{AreWithin}
use Rattle.feed_releases.specs.declared.standing.Standing.{Standing}
use Rattle.feed_releases.specs.declared.standing.Standing.TheVariants.{Partial, Bad}
use Rattle.feed_releases.specs.Standing.{record_after}
use Rattle.feed_releases.specs.ReleaseValue.{ReleaseValue, IsRelease, content_of, IsPlaceOf}
use Rattle.feed_releases.proofs.Finding.{found_at, set_at}

missing_all : (n : ℕ) → missing_below (byte_in []) n ≡ n
missing_all zero = refl
missing_all (suc n) = omega (arith, missing_all n)

none_within : (size : ℕ) → AreWithin size []
none_within size = record { parts = tt; inside = λ i d lt. absurd (omega (arith, lt)) }

-- a release without stored bytes
pub new_partial : (size : ℕ) → size ≤ max_file → size ≢ 0 → IsRelease size [] Partial
new_partial size limit some = record { within = none_within size; limit = limit; stands = omega (arith, missing_all size, some) }

-- that of an empty file, which is whole, and bad
pub new_empty : (size : ℕ) → size ≤ max_file → size ≡ 0 → IsRelease size [] (Bad NoHeader)
new_empty size limit none = record {
  within = none_within size;
  limit = limit;
  stands = (missing_all size ∙ none, ([], record { count = sym none; bytes = λ place lt. absurd (omega (arith, lt, none)) }, fault_of-empty));
}

-- what is at a place of the list is what was read there
pub kept_at : (rs : List ReleaseValue) (at : ℕ) (r : ReleaseValue) (P : Record → Type 0) → r ≡ get_or rs at r → P (get_or rs at r).kept → P r.kept
kept_at rs at r P here p = subst (λ (x : ReleaseValue). P x.kept) (sym here) p

pub name_at : (rs : List ReleaseValue) (n : Name) (at : ℕ) (r : ReleaseValue) → IsPlaceOf rs n at → r ≡ get_or rs at r → r.kept.name ≡ n
name_at rs n at r place here = name_is r.kept.name n (kept_at rs at r (λ (k : Record). name_eq k.name n ≡ true) here (place.here r))

pub found_here : (rs : List ReleaseValue) (n : Name) (at : ℕ) (r : ReleaseValue) → IsPlaceOf rs n at → r ≡ get_or rs at r → record_of (content_of rs) n ≡ Some r.kept
found_here rs n at r place here = kept_at rs at r (λ k. record_of (content_of rs) n ≡ Some k) here (found_at rs n at r place)

-- what is read twice at one place is one release
pub one_at : (rs : List ReleaseValue) (at : ℕ) (r x : ReleaseValue) → at < length rs → r ≡ get_or rs at r → x ≡ get_or rs at x → r ≡ x
one_at [] at r x lt here there = absurd (omega arith)
one_at (y ∷ ys) zero r x lt here there = here ∙ sym there
one_at (y ∷ ys) (suc at) r x lt here there = one_at ys at r x (omega arith) here there

pub length-set : (rs : List ReleaseValue) (at : ℕ) (x : ReleaseValue) → length (set rs at x) ≡ length rs
length-set [] at x = refl
length-set (y ∷ ys) zero x = refl
length-set (y ∷ ys) (suc at) x = ap suc (length-set ys at x)

-- writing back what was read changes nothing
pub set_back : (rs : List ReleaseValue) (at : ℕ) (r x : ReleaseValue) → r ≡ get_or rs at r → x ≡ r → set rs at x ≡ rs
set_back [] at r x here same = refl
set_back (y ∷ ys) zero r x here same = ap (λ z. z ∷ ys) (same ∙ here)
set_back (y ∷ ys) (suc at) r x here same = ap (λ zs. y ∷ zs) (set_back ys at r x here same)

-- a release changed at its place is its record changed under its name
pub record_after_at : (rs : List ReleaseValue) (n : Name) (at : ℕ) (r x : ReleaseValue) (new : List Part) (s : Standing) → IsPlaceOf rs n at → r ≡ get_or rs at r
    → x.kept ≡ record_after new s r.kept → content_of (set rs at x) ≡ changed n (record_after new s) (content_of rs)
record_after_at rs n at r x new s place here is = set_at rs n at r x (record_after new s) place (is ∙ ap (λ (y : ReleaseValue). record_after new s y.kept) here)
