use Rattle.std.proofs.Common.{◌≡◌, ℕ, suc, map, sym, ◌∙◌, ap, subst}
use Rattle.feed_world.specs.World.{Shows, start}
use Rattle.feed_world.specs.Shown.{shown_event, shown_line}
use Rattle.feed_keep.specs.Loads.{loads_after}
use Rattle.feed_core.specs.Chosen.{events_on, lines_on}
use Rattle.feed_core.specs.Slots.{slot_count}
use Rattle.feed_core.specs.Counts.{HasConcealed, HasDeviceFailure, IsReported, loads_shown}
use Rattle.feed_core.proofs.Counts.{after-one_more, each_then}
use Rattle.feed_core.proofs.world.replay.Goals as goal

pub returns-in-Ok-show_all-clause-shown : goal.returns-in-Ok-show_all-clause-shown
returns-in-Ok-show_all-clause-shown g c = λ chosen all.
    (let clean = rw c.of.ensures.keepers at all in
    let r = c.in-Ok-show_all.ensures.shown chosen (c.collect_keepers.ensures.clean chosen clean) in
    let same = c.in_ok-nodes.nodes.ok.0 ∙ c.in_ok-nodes.ensures.count in
    let events = map shown_event c.args.events.now in
    rw (c.of.ensures.lines, c.of.ensures.keepers) (
      r.0,
      subst (λ (n : ℕ). Shows (start n) (events_on chosen events) (lines_on chosen events (map shown_line c.in-Ok-show_all.lines.items)) r.0) same r.1,
      c.collect_keepers.ensures.kept chosen clean r.0 r.2,
    ))

pub returns-in-Ok-show_all-clause-headline : goal.returns-in-Ok-show_all-clause-headline
returns-in-Ok-show_all-clause-headline g c = λ chosen all.
    (let clean = rw c.of.ensures.keepers at all in
    rw c.of.ensures.lines (c.in-Ok-show_all.ensures.headline chosen (c.collect_keepers.ensures.clean chosen clean)))

pub returns-in-Ok-show_all-clause-count : goal.returns-in-Ok-show_all-clause-count
returns-in-Ok-show_all-clause-count g c = rw c.of.ensures.lines (sym c.in-Ok-show_all.lines.ok.0 ∙ c.in-Ok-show_all.ensures.lines)

pub returns-in-Ok-show_all-clause-device : goal.returns-in-Ok-show_all-clause-device
returns-in-Ok-show_all-clause-device g c =
    let failed = slot_count g.K.Keep.failed in
    let failures = HasDeviceFailure (map shown_event c.args.events.now) (map shown_line c.in-Ok-show_all.lines.items) in
    let concealed = HasConcealed (map shown_event c.args.events.now) (map shown_line c.in-Ok-show_all.lines.items) in
    let begun = each_then _ _ (λ i k s. IsReported (failures i) (concealed i) (g.K.Keep.failed k) (failed s)) 1 c.args.keepers.items c.in_ok-nodes.nodes.items c.in-Ok-show_all.nodes.items
    (λ i k s z first next. subst (λ (n : ℕ). IsReported (failures i) (concealed i) n (failed z)) first.0 next) c.in_ok-nodes.ensures.loaded c.in-Ok-show_all.ensures.device in
    rw (c.of.ensures.lines, c.of.ensures.keepers) (each_then _ _ (λ i k z. IsReported (failures i) (concealed i) (g.K.Keep.failed k) (g.K.Keep.failed z)) 1 c.args.keepers.items
    c.in-Ok-show_all.nodes.items c.collect_keepers.result.items
    (λ i k s z first next. subst (λ (n : ℕ). IsReported (failures i) (concealed i) (g.K.Keep.failed k) n) (sym next.0) first) begun c.collect_keepers.ensures.unloaded)

pub returns-in-Ok-show_all-clause-loaded : goal.returns-in-Ok-show_all-clause-loaded
returns-in-Ok-show_all-clause-loaded g c =
    let loads = slot_count g.K.Keep.loads in
    let times = loads_shown (map shown_event c.args.events.now) (map shown_line c.in-Ok-show_all.lines.items) in
    let begun = each_then _ _ (λ i k s. loads s ≡ loads_after (suc (times i)) (g.K.Keep.loads k)) 1 c.args.keepers.items c.in_ok-nodes.nodes.items c.in-Ok-show_all.nodes.items
    (λ i k s z first next. next ∙ ap (loads_after (times i)) first.1 ∙ after-one_more (times i) (g.K.Keep.loads k)) c.in_ok-nodes.ensures.loaded c.in-Ok-show_all.ensures.loaded in
    rw (c.of.ensures.lines, c.of.ensures.keepers) (each_then _ _ (λ i k z. g.K.Keep.loads z ≡ loads_after (suc (times i)) (g.K.Keep.loads k)) 1 c.args.keepers.items
    c.in-Ok-show_all.nodes.items c.collect_keepers.result.items (λ i k s z first next. next.1 ∙ first) begun c.collect_keepers.ensures.unloaded)
