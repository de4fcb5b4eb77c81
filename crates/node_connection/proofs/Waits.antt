-- The phase of a connection after a step that blocks.
use Rattle.std.proofs.Common.{◌≡◌, inl, inr, sym, ◌∙◌}
use Rattle.node_connection.specs.declared.connection.Connection.{Connection}
use Rattle.node_connection.specs.declared.phase.Wants.TheVariants.{Bytes, Room, Close}
use Rattle.node_connection.specs.States.{wants_in}
use Rattle.node_connection.specs.Streams.{WaitsFor}

close_is_no_bytes : Close ≡ Bytes → ⊥
close_is_no_bytes same = cc

close_is_no_room : Close ≡ Room → ⊥
close_is_no_room same = cc

bytes_is_no_room : Bytes ≡ Room → ⊥
bytes_is_no_room same = cc

module _ {P : Type 0} (new : Connection) where
  -- a reader that blocked
  pub bytes_blocked : WaitsFor Bytes P new → wants_in new.phase ≡ Bytes → P
  bytes_blocked (inl waits) is = waits.1
  bytes_blocked (inr over) is = absurd (close_is_no_bytes (sym over ∙ is))

  pub bytes_no_room : {Q : Type 0} → WaitsFor Bytes P new → wants_in new.phase ≡ Room → Q
  bytes_no_room (inl waits) is = absurd (bytes_is_no_room (sym waits.0 ∙ is))
  bytes_no_room (inr over) is = absurd (close_is_no_room (sym over ∙ is))

  -- a writer that blocked
  pub room_blocked : WaitsFor Room P new → wants_in new.phase ≡ Room → P
  room_blocked (inl waits) is = waits.1
  room_blocked (inr over) is = absurd (close_is_no_room (sym over ∙ is))

  pub room_no_bytes : {Q : Type 0} → WaitsFor Room P new → wants_in new.phase ≡ Bytes → Q
  room_no_bytes (inl waits) is = absurd (bytes_is_no_room (sym is ∙ waits.0))
  room_no_bytes (inr over) is = absurd (close_is_no_bytes (sym over ∙ is))
