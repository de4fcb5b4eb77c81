-- The head that was found in the bytes held.
use Rattle.std.specs.Prelude.{ℕ, nat_le, Bool, true, false, length}
use Rattle.feed_http_heads.specs.declared.head_ends.HeadFound.{HeadFound}
use Rattle.feed_http_heads.specs.declared.head_ends.HeadFound.TheVariants.{Whole, Unfinished, Never}
use Rattle.node_connection.specs.declared.head_state.HeadState.{HeadState}
use Rattle.node_connection.specs.declared.head_state.HeadState.TheVariants as state
use Rattle.node_connection.specs.declared.held_bytes.HeldBytes.{HeldBytes}

-- so many bytes contain the whole head, or all that were parsed and are not one
abbrev pub covers_found : HeadFound → ℕ → ℕ → Bool
covers_found (Whole spans) seen size = nat_le spans.len size
covers_found Unfinished seen size = false
covers_found Never seen size = nat_le seen size

abbrev pub covers : HeldBytes → ℕ → Bool
covers held size = covers_found held.found held.seen size

-- so does the head that was found, or all bytes if they are not one
abbrev pub covers_head : HeldBytes → HeadState → Bool
covers_head held state.Incomplete = true
covers_head held (state.Whole found) = covers held found.head_len
covers_head held state.Invalid = covers held (length held.bytes.items)
