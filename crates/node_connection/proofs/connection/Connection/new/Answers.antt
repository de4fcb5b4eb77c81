use Rattle.std.proofs.Common.{refl, sym, subst, inl}
use Rattle.feed_http_heads.specs.Limits.{head_limit}
use Rattle.feed_http_heads.specs.RequestHeads.{IsUnfinished}
use Rattle.node_connection.proofs.HeldBytes.{nothing_yet}
use Rattle.node_connection.proofs.connection.Connection.new.Goals as goal

pub returns-clause-state : goal.returns-clause-state
returns-clause-state c = (
  record {
    current = record {
      served = record { in_order = sym c.new.ensures; persists = refl; expected = (tt, inl refl) };
      knows = refl;
      sent = refl;
      in_time = record { idleness = refl; counted_time = refl; counted_bytes = refl; left = c.args.limits.step_some };
    };
    incomplete = inl (subst (IsUnfinished head_limit) (sym c.new.ensures) nothing_yet);
  },
  refl,
  inl refl,
)
