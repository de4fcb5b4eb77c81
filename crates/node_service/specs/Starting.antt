-- A node that does not answer readers yet.
use Rattle.std.specs.Prelude.{◌≡◌, ℕ, Bool, List, Some}
use Rattle.feed_model.specs.Content.{within}
use Rattle.feed_model.specs.Sound.{IsSound}
use Rattle.feed_model.specs.declared.keep_fault.KeepFault.TheVariants.{Damaged}
use Rattle.feed_releases.specs.Openings.{opening_keeper, opening_most}
use Rattle.feed_releases.specs.declared.feed.opening.Opening.{Opening}
use Rattle.node_service.specs.declared.starting.StartFault.{StartFault}
use Rattle.node_service.specs.declared.starting.StartFault.TheVariants.{Keeper}
use Rattle.feed_keep.specs.declared.keep.Keep.{Ghosts}
use Rattle.feed_model.specs.History.{History}
use Rattle.node_monitoring.specs.declared.report_text.ReportResponse.{ReportResponse}
use Rattle.node_state.specs.StateReports.{IsSomeStartingResponse}
use Rattle.node_machine.specs.Nodes.{IsLater}
use Rattle.node_machine.specs.Rules.{Terms}
use Rattle.node_machine.specs.declared.machine.NodeMachine.{NodeMachine}
use Rattle.node_server.specs.declared.socket.Socket.{Socket}
use Rattle.node_service.specs.declared.starting_responder.StartingResponder.{StartingResponder}

-- the responses of a node that starts: those about itself. To any other request its responder makes none, so the
-- response is `unavailable`
abbrev pub IsStartingText : StartingResponder → Terms (Unit {0}) → History → List ℕ → List ℕ → Bool → List ℕ → Type 0
IsStartingText responder terms h bytes body keeps text =
    (reply : ReportResponse) × IsSomeStartingResponse terms.is_local responder.has_open_reports bytes keeps (Some reply) × (text ≡ reply.bytes.items)

-- each history that the node had continues with some events to one that it has. Its feed may record as many releases
abbrev pub IsLaterStart : {K : Type 0} {k : Ghosts K} → NodeMachine Socket K StartingResponder k → NodeMachine Socket K StartingResponder k → Type 0
IsLaterStart old new = IsLater (λ responder head. 0) IsStartingText (λ responder. tt) old new

-- a node may end so while this feed is opened: as damaged only if no feed has the content of its keeper
abbrev pub IsStartFault : {K : Type 0} {k : Ghosts K} → Opening K k → StartFault → Type 0
IsStartFault {k = k} opening fault = fault ≡ Keeper Damaged → k.clean (opening_keeper opening) → ¬ (IsSound (within (opening_most opening) (k.content (opening_keeper opening))))
