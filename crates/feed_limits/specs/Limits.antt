-- The limits that all crates of a feed share. No standard sets them.
use Rattle.std.specs.Prelude.{ℕ}

-- the most bytes that a file may have: 256 MiB
abbrev pub file_limit : ℕ
file_limit = 268435456

-- the most bytes of a piece, and so of a stored part: 1 MiB
abbrev pub piece_limit : ℕ
piece_limit = 1048576

-- the most releases that a feed records, over all packages
abbrev pub release_limit : ℕ
release_limit = 256
