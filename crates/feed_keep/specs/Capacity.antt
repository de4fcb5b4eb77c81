-- The most records of a keeper.
use Rattle.std.specs.Prelude.{◌+◌, ℕ}
use Rattle.feed_model.specs.Reply.{max_held}

-- the most records of a keeper that has room for this many beside the 256 of every keeper
abbrev pub capacity_with : ℕ → ℕ
capacity_with more = max_held + more

-- the most records of a large keeper
abbrev pub large_capacity : ℕ
large_capacity = 4096
