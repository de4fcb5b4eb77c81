-- A run of a node.
use Rattle.std.specs.Prelude.{List, ◌++◌}
use Rattle.node_request.specs.Forms.{form_length}
use Rattle.feed_keep.specs.declared.keep.Keep.{Ghosts}
use Rattle.feed_model.specs.Content.{IsContent, within}
use Rattle.feed_releases.specs.declared.feed.Feed.{Feed}
use Rattle.feed_releases.specs.Feeds.{most_of, recorded}
use Rattle.node_server.specs.declared.socket.Socket.{Socket}
use Rattle.node_machine.specs.declared.machine.NodeMachine.{NodeMachine}
use Rattle.node_machine.specs.NodeEvents.{NodeEvent, feed_history}
use Rattle.node_machine.specs.Rules.{AreGiven}
use Rattle.node_machine.specs.Nodes.{IsLater}
use Rattle.node_service.specs.declared.responder.FeedResponder.{FeedResponder}
use Rattle.node_sites.specs.declared.node_sites.NodeSites.{NodeSites}
use Rattle.node_service.specs.declared.node_loop.End.{End}
use Rattle.node_service.specs.Responders.{IsTurnText}

-- each history that the node had continues with some events to one that it has. Its feed may record as many releases
abbrev pub IsLaterNode : {K : Type 0} {k : Ghosts K} → NodeMachine Socket K FeedResponder k → NodeMachine Socket K FeedResponder k → Type 0
IsLaterNode old new = IsLater (λ responder head. form_length head) IsTurnText (λ (responder : FeedResponder). responder.sites) old new

-- a run over the feed ended so, with this keeper. If a stop loses nothing of it, its content is one of a feed that may
-- have as many releases as the feed of the run. The history of that feed continues to one of the content, only by events
-- that responses of the knowledge base gave
abbrev pub HasGoneOn : {K : Type 0} {k : Ghosts K} → Feed K k → End × K → Type 0
HasGoneOn {K} {k} feed result =
    (history : List (NodeEvent NodeSites)) → IsContent (recorded {K = K} {k = k} feed) (feed_history history) → AreGiven history → k.clean result.1
    → (later : List (NodeEvent NodeSites)) × IsContent (within (most_of feed) (k.content result.1)) (feed_history (later ++ history)) × AreGiven (later ++ history)
