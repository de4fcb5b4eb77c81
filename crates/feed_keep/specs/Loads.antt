-- How often a keeper was loaded.
use Rattle.std.specs.Prelude.{◌+◌, ℕ, zero, suc, min}

-- the greatest value of a count of loads
abbrev pub most_loads : ℕ
most_loads = 18446744073709551615

-- the count after one more load; it saturates at its greatest value
abbrev pub one_more : ℕ → ℕ
one_more loads = min (loads + 1) most_loads

-- the count after this many more loads
abbrev pub loads_after : ℕ → ℕ → ℕ
loads_after zero loads = loads
loads_after (suc more) loads = one_more (loads_after more loads)
