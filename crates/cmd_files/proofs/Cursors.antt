-- A cursor over bytes in memory is a file that has these bytes.
use Rattle.std.proofs.Common.{◌≡◌, ℕ, List, Option, Some, drop, refl, ap}
use Rattle.std.specs.Io.Cursor.{cursor_inner, cursor_position, cursor_remaining}
use Rattle.std.specs.declared.io.impls.Cursor.{Cursor}
use Rattle.cmd_files.specs.PlacedFiles.{HasBytes}

some_is : {X : Type 0} (x y : X) → Some x ≡ Some y → x ≡ y
some_is x y e = cc

pub cursor_has_bytes : {T : Type 0} (bytes : T → Option (List ℕ)) (all : List ℕ) (cursor : Cursor T) → bytes (cursor_inner cursor) ≡ Some all
    → HasBytes (cursor_remaining bytes) (λ c. Some (cursor_position c)) (λ c. bytes (cursor_inner c)) all cursor
cursor_has_bytes bytes all cursor has = record {
  has = has;
  place = cursor_position cursor;
  is_placed = refl;
  reads = λ later at same placed. rw same (ap (λ n. Some (drop n all)) (some_is _ _ placed));
}
