-- The history of a node while only its connections change.
use Rattle.std.proofs.Common.{ℕ, Bool, List, inl, inr}
use Rattle.std.specs.Prelude.{option_copied}
use Rattle.httparse.specs.Grammar.{RequestHead}
use Rattle.feed_keep.specs.declared.keep.Keep.{Ghosts}
use Rattle.feed_model.specs.History.{History}
use Rattle.node_table.specs.declared.table.Table.{Table}
use Rattle.node_table.specs.Tables.{KeepsConnections}
use Rattle.node_machine.specs.declared.machine.NodeMachine.{NodeMachine}
use Rattle.node_machine.specs.NodeEvents.{NodeEvent}
use Rattle.node_machine.specs.Rules.{Terms}
use Rattle.node_machine.specs.Nodes.{AreAt, HasHistory, HasServed, KeepsHistory, rules_of}
use Rattle.node_machine.proofs.Connections.{at_kept}
use Rattle.node_machine.proofs.Shares.{MovesBy}

-- the node with these connections
abbrev pub with_table : {T K S : Type 0} {k : Ghosts K} → NodeMachine T K S k → Table T → NodeMachine T K S k
with_table node table = record {
  alloc = node.alloc;
  table = table;
  feed = node.feed;
  responder = node.responder;
  token = node.token;
  fetching = node.fetching;
  requested = node.requested;
  today = node.today;
  reload = node.reload;
}

module _ {T K S V : Type 0} {k : Ghosts K} (wanted : S → RequestHead → ℕ)
    (replies : S → Terms V → History → List ℕ → List ℕ → Bool → List ℕ → Type 0) (sites : S → V) (node : NodeMachine T K S k) (table : Table T) where
  at_tabled : (history : List (NodeEvent V)) → AreAt table history → HasHistory wanted replies sites node history
      → HasHistory wanted replies sites (with_table node table) history
  at_tabled history at has = record {
    connections = at;
    feed = has.feed;
    fetching = has.fetching;
    idle = has.idle;
    requested = has.requested;
    today = has.today;
    sites_had = has.sites_had;
    reload = has.reload;
    allowed = has.allowed;
    given = has.given;
  }

  -- the connections that remain are as they were
  pub tabled : KeepsConnections node.table table → KeepsHistory wanted replies sites node (with_table node table)
  tabled keeps history has = at_tabled history (at_kept node.table table history keeps has.connections) has

  -- the connection with this key had one more share, if it is there
  pub moved : (key : ℕ) (history : List (NodeEvent V)) → MovesBy (rules_of wanted replies sites node) (option_copied node.token) key table history
      → HasHistory wanted replies sites node history → HasServed wanted replies sites key (with_table node table) history
  moved key history (inl at) has = inl (at_tabled history at has)
  moved key history (inr (share, at, is)) has = inr (
    share,
    record {
      connections = at;
      feed = has.feed;
      fetching = has.fetching;
      idle = has.idle;
      requested = has.requested;
      today = has.today;
      sites_had = has.sites_had;
      reload = has.reload;
      allowed = (is, has.allowed);
      given = has.given;
    },
  )
