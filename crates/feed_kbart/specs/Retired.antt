-- Holdings that are freed in portions.
use Rattle.std.specs.Prelude.{ℕ}

-- the number of rows that are freed at a time
abbrev pub portion : ℕ
portion = 16384
