-- The bytes of a piece, compared with the parts kept.
use Rattle.std.specs.Prelude.{◌≡◌, ◌≢◌, ◌<◌, ◌≤◌, ◌+◌, ℕ, List, length, Option, Some, None, IsSome, IfSome, All}
use Rattle.feed_names.specs.ReleaseName.{Name}
use Rattle.feed_model.specs.History.{or_else, byte_at}
use Rattle.feed_model.specs.Reply.{max_piece}
use Rattle.feed_model.specs.Content.{Part, Record, Content, record_of, byte_in, end_of, AreParts}
use Rattle.feed_model.specs.Change.{merged, NoneIsLater}

-- a byte differs from the one that the parts have at its place
abbrev pub DiffersIn : List Part → ℕ → List ℕ → Type 0
DiffersIn ps first bytes = (place x y : ℕ) × (byte_in ps place ≡ Some x) × (byte_at first bytes place ≡ Some y) × (x ≢ y)

-- at each place that both have, the bytes are equal
abbrev pub AgreesIn : List Part → ℕ → List ℕ → Type 0
AgreesIn ps first bytes = (place x y : ℕ) → byte_in ps place ≡ Some x → byte_at first bytes place ≡ Some y → x ≡ y

-- a byte is at a place that the parts lack
abbrev pub HasNew : List Part → ℕ → List ℕ → Type 0
HasNew ps first bytes = (place : ℕ) × IsSome (byte_at first bytes place) × (byte_in ps place ≡ None)

-- the parts have each place of the bytes
abbrev pub Covers : List Part → ℕ → List ℕ → Type 0
Covers ps first bytes = (place : ℕ) → IsSome (byte_at first bytes place) → IsSome (byte_in ps place)

-- the parts are in order, and none extends past the size of the file
pub record AreWithin (size : ℕ) (ps : List Part) : Type 0 where
  pub parts : AreParts ps
  pub inside : All (λ p. end_of p ≤ size) ps

-- with the new parts, the kept ones have the bytes of the piece too
pub record Adds (size : ℕ) (ps : List Part) (first : ℕ) (bytes : List ℕ) (new : List Part) : Type 0 where
  pub union : (place : ℕ) → byte_in (merged ps new) place ≡ or_else (byte_in ps place) (byte_at first bytes place)
  pub order : AreWithin size new
  pub whole : AreWithin size (merged ps new)

-- the piece has a permitted length
pub record IsSmall (bytes : List ℕ) : Type 0 where
  pub some : 0 < length bytes
  pub most : length bytes ≤ max_piece

-- the piece belongs to a recorded release that no later active one supersedes, has the recorded size, and fits in it
pub record Reaches (c : Content) (n : Name) (first : ℕ) (total : Option ℕ) (bytes : List ℕ) (r : Record) : Type 0 where
  pub small : IsSmall bytes
  pub free : NoneIsLater c n
  pub found : record_of c n ≡ Some r
  pub sized : IfSome total (λ t. t ≡ r.size)
  pub within : first + length bytes ≤ r.size
