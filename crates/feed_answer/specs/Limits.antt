-- The size limit of a query.
use Rattle.std.specs.Prelude.{ℕ}

-- the most bytes that a query may have
abbrev pub query_limit : ℕ
query_limit = 4096
