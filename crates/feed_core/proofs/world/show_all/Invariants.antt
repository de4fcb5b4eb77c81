use Rattle.std.proofs.Common.{◌≡◌, ℕ, Bool, take, map, length}
use Rattle.std.specs.Prelude.{vec_len}
use Rattle.feed_world.specs.Shown.{shown_event, shown_line}
use Rattle.feed_core.specs.Step.{HasShown}
use Rattle.feed_core.specs.Counts.{EachNode}
use Rattle.feed_core.proofs.Counts.{IsAccountOver}
use Rattle.feed_core.proofs.world.show_all.Given as goal

-- the lines so far are right, the nodes represent the world that they lead to, and the lines account for their keepers
abbrev pub invariant-loop-event : goal.invariant-loop-event
invariant-loop-event g l = record {
  shown : (chosen : ℕ → Bool) → HasShown chosen g.N.Node (vec_len l.initial.nodes) (map shown_event (take l.event-index l.events)) (map shown_line l.lines.items)
      (record { files = l.shelf.files.entries; nodes = l.nodes.items });
  account : EachNode (IsAccountOver g.N.Node.failed g.N.Node.loads (map shown_event (take l.event-index l.events)) (map shown_line l.lines.items)) 1 l.initial.nodes.items l.nodes.items;
  lines : length l.lines.items ≡ l.event-index;
  count : length l.nodes.items ≡ vec_len l.initial.nodes;
}
