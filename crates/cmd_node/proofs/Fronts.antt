-- The front of a file: its first bytes, one more than a limit permits.
use Rattle.std.proofs.Common.{◌≡◌, ◌≤◌, ◌<◌, ◌+◌, arith, ℕ, List, length, take, subst}
use Rattle.std.proofs.lemmas.List.{length-take, take_all}

-- a front that is within a limit is all that there is
pub whole : (n : ℕ) (bytes : List ℕ) → length (take (n + 1) bytes) ≤ n → take (n + 1) bytes ≡ bytes
whole n bytes fits = take_all (n + 1) bytes (omega (arith, length-take (n + 1) bytes, fits))

pub longer : (n : ℕ) (bytes : List ℕ) → n < length (take (n + 1) bytes) → n < length bytes
longer n bytes h = omega (arith, length-take (n + 1) bytes, h)

pub whole_has : (n : ℕ) (bytes : List ℕ) (P : List ℕ → Type 0) → length (take (n + 1) bytes) ≤ n → P (take (n + 1) bytes) → P bytes
whole_has n bytes P fits holds = subst P (whole n bytes fits) holds
