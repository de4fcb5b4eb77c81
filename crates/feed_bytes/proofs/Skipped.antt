-- Bytes that are passed over at the front of a text.
use Rattle.std.proofs.Common.{◌≡◌, ◌++◌, ℕ, zero, suc, List, replicate, refl}
use Rattle.std.specs.List.{filter}
use Rattle.feed_bytes.specs.Trim.{is_no_hyphen, skip_spaces}

pub spaces-skipped : (count : ℕ) (rest : List ℕ) → skip_spaces (replicate count 32 ++ rest) ≡ skip_spaces rest
spaces-skipped zero rest = refl
spaces-skipped (suc count) rest = spaces-skipped count rest

pub hyphens-skipped : (count : ℕ) (rest : List ℕ) → filter is_no_hyphen (replicate count 45 ++ rest) ≡ filter is_no_hyphen rest
hyphens-skipped zero rest = refl
hyphens-skipped (suc count) rest = hyphens-skipped count rest
