-- How the rows that a query looks at are shared among releases, so that no list hides the hits of another.
use Rattle.std.specs.Prelude.{ℕ, ◌+◌, ◌-◌, ◌/◌, max, min, nat_le, nat_lt, if◌then◌else◌, List, count_by, sum, sum_by}
use Rattle.node_hits.specs.declared.shares.Shares.{Shares}

-- the most rows that are looked at for a query, in all releases together
abbrev pub row_limit : ℕ
row_limit = 5000

-- how many of the releases with so many rows each have rows
abbrev pub having_rows : List ℕ → ℕ
having_rows counts = count_by (λ rows. nat_lt 0 rows) counts

-- an equal share for each of so many releases, one at least
abbrev pub equal_share : ℕ → ℕ
equal_share releases = max 1 (row_limit / max 1 releases)

-- what is left of the rows that are looked at if each release has this share
abbrev pub left_by : ℕ → List ℕ → ℕ
left_by share counts = row_limit - sum_by (λ rows. min share rows) counts

-- a share, and as much of what is left for each release that has more rows
abbrev pub widened : ℕ → List ℕ → ℕ
widened share counts = share + left_by share counts / max 1 (count_by (λ rows. nat_lt share rows) counts)

-- the most rows of each release that are looked at. If all together have few, all are
abbrev pub row_share : List ℕ → ℕ
row_share counts = if nat_le (sum counts) row_limit then row_limit else widened (equal_share (having_rows counts)) counts

-- the shares of each release among some with so many rows each: of the rows that are looked at, and of the texts of hits
abbrev pub shares_of : List ℕ → Shares
shares_of counts = record { rows = row_share counts; texts = equal_share (having_rows counts) }
