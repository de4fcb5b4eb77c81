-- The keys of an OpenURL that nobody reads.
use Rattle.std.specs.Prelude.{◌≡◌, ◌&&◌, not, ℕ, Bool, true, false, List, [], ◌∷◌, map, filter, is_some, replicate, IsPermutation}
use Rattle.std.specs.List.{flat_map}
use Rattle.std.specs.Ordering.{nat_cmp, is_lt}
use Rattle.std.specs.Cmp.Lexicographic.{slice_cmp}
use Rattle.feed_openurl.specs.Keys.{key_of}
use Rattle.feed_openurl.specs.Citations.{part_of}
use Rattle.feed_openurl.specs.Shown.{shown}
use Rattle.feed_openurl.specs.declared.key.Key.{Key}
use Rattle.feed_openurl.specs.declared.key.Key.TheVariants.{Other}

-- a key by which nothing is looked up
abbrev pub is_other : Key → Bool
is_other Other = true
is_other _ = false

-- nobody reads a key: nothing is looked up by it, and it has no part of a citation
abbrev pub is_dropped : List ℕ → Bool
is_dropped key = is_other (key_of key) && not (is_some (part_of key))

-- the keys that nobody reads, each as often as it appears
abbrev pub dropped_in : List (List ℕ × List ℕ) → List (List ℕ)
dropped_in pairs = filter is_dropped (map (λ pair. pair.0) pairs)

-- a key as it is shown, and how often it appears
pub record DroppedValue : Type 0 where
  pub key : List ℕ
  pub count : ℕ

abbrev pub dropped : List ℕ × ℕ → DroppedValue
dropped counted = record { key = shown counted.0; count = counted.1 }

-- each key as often as it was counted
abbrev pub appearances : List (List ℕ × ℕ) → List (List ℕ)
appearances counted = flat_map (λ entry. replicate entry.1 entry.0) counted

-- each key comes before the next one, in the order of their bytes
abbrev pub AreAscending : List (List ℕ × ℕ) → Type 0
AreAscending [] = Unit {0}
AreAscending (entry ∷ []) = Unit {0}
AreAscending (entry ∷ next ∷ more) = (is_lt (slice_cmp nat_cmp entry.0 next.0) ≡ true) × AreAscending (next ∷ more)

-- these keys are counted: each one once, each appearance, and in the order of their bytes
pub record AreCounted (keys : List (List ℕ)) (found : List DroppedValue) : Type 0 where
  pub counted : List (List ℕ × ℕ)
  pub shown_so : found ≡ map dropped counted
  pub whole : IsPermutation keys (appearances counted)
  pub ascending : AreAscending counted
