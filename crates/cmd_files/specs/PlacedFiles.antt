-- A file that is read from a place on.
use Rattle.std.specs.Prelude.{◌≡◌, ℕ, List, Option, Some, drop}

-- the contracts of a file name all its bytes and its place, and it reads from there on: the traits `Read` and `Seek` do not
-- say this of each other
pub record HasBytes {R : Type 0} (remaining : R → Option (List ℕ)) (position : R → Option ℕ) (all_of : R → Option (List ℕ)) (all : List ℕ) (file : R) : Type 0 where
  pub has : all_of file ≡ Some all
  pub place : ℕ
  pub is_placed : position file ≡ Some place
  pub reads : (later : R) (at : ℕ) → all_of later ≡ Some all → position later ≡ Some at → remaining later ≡ Some (drop at all)
