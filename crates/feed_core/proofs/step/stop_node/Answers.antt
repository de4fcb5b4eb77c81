use Rattle.std.proofs.Common.{true, refl}
use Rattle.feed_core.proofs.Counts.{reported_as}
use Rattle.feed_core.proofs.step.stop_node.Goals as goal

pub returns-in-Before : goal.returns-in-Before
returns-in-Before g c =
    let r = c.restart_node.ensures in
    rw c.in-Before.is (record {
      before = r.before;
      after = r.after;
      was = r.was;
      now = r.now;
      was_clean = r.was_clean;
      holds = (reported_as r.holds.0 (λ e. e) (λ e. e) (λ t. absurd t), r.holds.1, λ h clean in_state. r.holds.2 true h clean in_state);
    })

pub returns-in-After : goal.returns-in-After
returns-in-After g c =
    let r = c.stop_node_after.ensures in
    rw c.in-After.is (record {
      before = r.before;
      after = r.after;
      was = r.was;
      now = r.now;
      was_clean = r.was_clean;
      holds = (reported_as r.holds.0 (λ e. e) (λ e. e) (λ _. refl), r.holds.1, λ h clean in_state. r.holds.2 h clean in_state);
    })
