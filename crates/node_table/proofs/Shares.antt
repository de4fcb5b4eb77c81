-- The effects of a connection's share of a turn.
use Rattle.std.proofs.Common.{◌≡◌, [], sym, ◌∙◌, arith, inl}
use Rattle.node_connection.specs.declared.connection.Connection.{Connection}
use Rattle.node_connection.specs.declared.phase.Wants.TheVariants as wants
use Rattle.node_connection.specs.declared.streams.Share.{Share}
use Rattle.node_connection.specs.declared.streams.Progress.TheVariants.{Blocked}
use Rattle.node_connection.specs.Responses.{Responses}
use Rattle.node_connection.specs.States.{wants_in}
use Rattle.node_table.specs.Connections.{HasServed}

close_is_no_parse : wants.Close ≡ wants.Parse → ⊥
close_is_no_parse same = cc

-- a connection that is over stops at once
pub served_none : (replies : Responses) (share : Share) (connection : Connection) → wants_in connection.phase ≡ wants.Close
    → HasServed replies Blocked share share connection connection
served_none replies share connection over = record {
  moved = λ history state. record {
    more = [];
    state = state;
    replies_made = tt;
    bytes_counted = omega arith;
    replies_covered = omega arith;
    replies_counted = inl (omega arith);
  };
  still = λ same. absurd (cc);
  stopped = λ parses. close_is_no_parse (sym over ∙ parses);
}
