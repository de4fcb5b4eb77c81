use Rattle.std.proofs.Common.{◌≡◌, refl}
use Rattle.feed_world.specs.World.{Shelf, arriving, Offer, Deliver, Lose, Tell, Restart, StopBefore, StopAfter, Report, Ask, Publish}
use Rattle.feed_world.specs.Shown.{shown_event, shown_line, shown_sent}
use Rattle.feed_core.specs.Nodes.{shown_arrived}
use Rattle.feed_core.proofs.WorldSteps.{step_to, publishes}
use Rattle.feed_core.proofs.Counts.{account_stay, each_same}
use Rattle.feed_core.proofs.world.show.Goals as goal

pub returns-in_ok-publish-in-Publish-clause-step : goal.returns-in_ok-publish-in-Publish-clause-step
returns-in_ok-publish-in-Publish-clause-step g c = λ chosen.
    rw c.in-Publish.is (publishes chosen g.N.Node c.args.shelf.now.files.entries c.publish.new.self.files.entries c.args.nodes.now.items
    (Publish c.in-Publish.name c.in-Publish.bytes.items) (shown_line c.in_ok-publish-in-Publish.field-0) refl (rw c.deref.ensures.value at c.in_ok-publish-in-Publish.ensures))

pub returns-in-Offer-clause-step : goal.returns-in-Offer-clause-step
returns-in-Offer-clause-step g c = λ chosen.
    rw c.in-Offer.is (step_to chosen g.N.Node (λ (z : Shelf). arriving z
    (Offer c.in-Offer.name) ≡ shown_arrived c.offer.result) c.args.shelf.now.files.entries c.args.nodes.now.items c.tell_at.new.nodes.items (Tell c.in-Offer.node (Offer c.in-Offer.name))
    (shown_line c.tell_at.result) (λ shelf is. c.offer.ensures.arrives shelf is) (c.tell_at.ensures.step chosen (Offer c.in-Offer.name)))

pub returns-in-Deliver-clause-step : goal.returns-in-Deliver-clause-step
returns-in-Deliver-clause-step g c = λ chosen.
    rw c.in-Deliver.is (step_to chosen g.N.Node (λ (z : Shelf). arriving z
    (Deliver c.in-Deliver.name c.in-Deliver.first c.in-Deliver.len) ≡ shown_arrived c.deliver.result) c.args.shelf.now.files.entries c.args.nodes.now.items c.tell_at-in-Deliver.new.nodes.items
    (Tell c.in-Deliver.node (Deliver c.in-Deliver.name c.in-Deliver.first c.in-Deliver.len)) (shown_line c.tell_at-in-Deliver.result) (λ shelf is. c.deliver.ensures.arrives shelf is)
    (c.tell_at-in-Deliver.ensures.step chosen (Deliver c.in-Deliver.name c.in-Deliver.first c.in-Deliver.len)))

pub returns-in-Lose-clause-step : goal.returns-in-Lose-clause-step
returns-in-Lose-clause-step g c = λ chosen.
    rw c.in-Lose.is (step_to chosen g.N.Node (λ (z : Shelf). arriving z
    (Lose c.in-Lose.name) ≡ shown_arrived c.lose.result) c.args.shelf.now.files.entries c.args.nodes.now.items c.tell_at-in-Lose.new.nodes.items (Tell c.in-Lose.node (Lose c.in-Lose.name))
    (shown_line c.tell_at-in-Lose.result) (λ shelf is. c.lose.ensures.arrives shelf is) (c.tell_at-in-Lose.ensures.step chosen (Lose c.in-Lose.name)))

pub returns-in-Restart-clause-step : goal.returns-in-Restart-clause-step
returns-in-Restart-clause-step g c = λ chosen.
    rw c.in-Restart.is (step_to chosen g.N.Node (λ (z : Shelf). Unit {0}) c.args.shelf.now.files.entries c.args.nodes.now.items c.restart_at.new.nodes.items
    (Restart c.in-Restart.node) (shown_line c.restart_at.result) (λ shelf is. tt) (c.restart_at.ensures.step chosen))

pub returns-in-StopBefore-clause-step : goal.returns-in-StopBefore-clause-step
returns-in-StopBefore-clause-step g c = λ chosen.
    rw c.in-StopBefore.is (step_to chosen g.N.Node
    (λ (z : Shelf). arriving z (shown_sent c.in-StopBefore.what) ≡ shown_arrived c.send.result) c.args.shelf.now.files.entries c.args.nodes.now.items c.stop_at.new.nodes.items
    (StopBefore c.in-StopBefore.node (shown_sent c.in-StopBefore.what)) (shown_line c.stop_at.result) (λ shelf is. c.send.ensures.arrives shelf is)
    (c.stop_at.ensures.step chosen (shown_sent c.in-StopBefore.what)))

pub returns-in-StopAfter-clause-step : goal.returns-in-StopAfter-clause-step
returns-in-StopAfter-clause-step g c = λ chosen.
    rw c.in-StopAfter.is (step_to chosen g.N.Node (λ (z : Shelf). arriving z
    (shown_sent c.in-StopAfter.what) ≡ shown_arrived c.send-in-StopAfter.result) c.args.shelf.now.files.entries c.args.nodes.now.items c.stop_at-in-StopAfter.new.nodes.items
    (StopAfter c.in-StopAfter.node (shown_sent c.in-StopAfter.what)) (shown_line c.stop_at-in-StopAfter.result) (λ shelf is. c.send-in-StopAfter.ensures.arrives shelf is)
    (c.stop_at-in-StopAfter.ensures.step chosen (shown_sent c.in-StopAfter.what)))

pub returns-in_ok-report_at-in-Report-clause-step : goal.returns-in_ok-report_at-in-Report-clause-step
returns-in_ok-report_at-in-Report-clause-step g c = λ chosen.
    rw c.in-Report.is (step_to chosen g.N.Node (λ (z : Shelf). Unit {0}) c.args.shelf.now.files.entries c.args.nodes.now.items c.args.nodes.now.items
    (Report c.in-Report.node c.in-Report.«package».items) (shown_line c.in_ok-report_at-in-Report.field-0) (λ shelf is. tt)
    (rw (c.deref-in-Report.ensures.value, c.deref-in-Report-2.ensures.value) at (c.in_ok-report_at-in-Report.ensures.step chosen)))

pub returns-in-Ask-clause-step : goal.returns-in-Ask-clause-step
returns-in-Ask-clause-step g c = λ chosen.
    rw c.in-Ask.is (step_to chosen g.N.Node (λ (z : Shelf). Unit {0}) c.args.shelf.now.files.entries c.args.nodes.now.items c.args.nodes.now.items
    (Ask c.in-Ask.node c.in-Ask.«package».items c.in-Ask.query.items) (shown_line c.ask_at.result) (λ shelf is. tt)
    (rw (c.deref-in-Ask.ensures.value, c.deref-in-Ask-2.ensures.value, c.deref-in-Ask-3.ensures.value) at (c.ask_at.ensures.step chosen)))

pub returns-in_ok-publish-in-Publish-clause-account : goal.returns-in_ok-publish-in-Publish-clause-account
returns-in_ok-publish-in-Publish-clause-account g c = rw c.in-Publish.is (each_same _ 1 c.args.nodes.now.items (λ i x le. ((λ here. absurd (let here = here in cc)), (λ _. refl))))

pub returns-in-Offer-clause-account : goal.returns-in-Offer-clause-account
returns-in-Offer-clause-account g c = rw c.in-Offer.is (c.tell_at.ensures.account c.offer.ensures.unsent (Offer c.in-Offer.name))

pub returns-in-Deliver-clause-account : goal.returns-in-Deliver-clause-account
returns-in-Deliver-clause-account g c =
    rw c.in-Deliver.is (c.tell_at-in-Deliver.ensures.account c.deliver.ensures.unsent (Deliver c.in-Deliver.name c.in-Deliver.first c.in-Deliver.len))

pub returns-in-Lose-clause-account : goal.returns-in-Lose-clause-account
returns-in-Lose-clause-account g c = rw c.in-Lose.is (c.tell_at-in-Lose.ensures.account c.lose.ensures.unsent (Lose c.in-Lose.name))

pub returns-in-Restart-clause-account : goal.returns-in-Restart-clause-account
returns-in-Restart-clause-account g c = rw c.in-Restart.is c.restart_at.ensures.account

pub returns-in-StopBefore-clause-account : goal.returns-in-StopBefore-clause-account
returns-in-StopBefore-clause-account g c = rw c.in-StopBefore.is (c.stop_at.ensures.account c.send.ensures.unsent (shown_sent c.in-StopBefore.what))

pub returns-in-StopAfter-clause-account : goal.returns-in-StopAfter-clause-account
returns-in-StopAfter-clause-account g c = rw c.in-StopAfter.is (c.stop_at-in-StopAfter.ensures.account c.send-in-StopAfter.ensures.unsent (shown_sent c.in-StopAfter.what))

pub returns-in_ok-report_at-in-Report-clause-account : goal.returns-in_ok-report_at-in-Report-clause-account
returns-in_ok-report_at-in-Report-clause-account g c =
    account_stay g.N.Node.failed g.N.Node.loads (shown_event c.args.event.now) (shown_line c.in_ok-report_at-in-Report.field-0) c.args.nodes.now.items
    c.in_ok-report_at-in-Report.ensures.device c.in_ok-report_at-in-Report.ensures.unloaded

pub returns-in-Ask-clause-account : goal.returns-in-Ask-clause-account
returns-in-Ask-clause-account g c =
    account_stay g.N.Node.failed g.N.Node.loads (shown_event c.args.event.now) (shown_line c.ask_at.result) c.args.nodes.now.items c.ask_at.ensures.device c.ask_at.ensures.unloaded
