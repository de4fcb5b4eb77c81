-- The release that a fetch from files in memory is to have.
use Rattle.std.specs.Prelude.{◌≤◌, IsTrue}
use Rattle.feed_http.specs.RequestTexts.{is_host}
use Rattle.feed_limits.specs.Limits.{piece_limit}
use Rattle.feed_fetch.specs.declared.memory_fetch.Order.{Order}

-- the host is one of an authority, and a request asks for one place or more, within the limit of a piece
abbrev pub IsOrder : Order → Type 0
IsOrder order = IsTrue (is_host order.host.now) × (1 ≤ order.piece) × (order.piece ≤ piece_limit)
