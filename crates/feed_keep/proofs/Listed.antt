-- No name appears twice after a change.
use Rattle.std.specs.Prelude.{ℕ}
use Rattle.std.specs.List.{IsDistinct}
use Rattle.feed_names.specs.ReleaseName.{name_eq}
use Rattle.feed_model.specs.Content.{Content, names}
use Rattle.feed_model.specs.declared.state.State.TheVariants.{Staged, Active}
use Rattle.feed_model.specs.Change.{Change, Add, Pieces, Break, Activate, IsAllowedWithin, after, broken_with, changed, grown, new_record}
use Rattle.feed_model.proofs.Distinct.{distinct-changed, distinct-insert_record, distinct-without_earlier}
use Rattle.std.proofs.Common.{refl}

pub distinct_after : (most : ℕ) (change : Change) (c : Content) → IsAllowedWithin most change c → IsDistinct name_eq (names c) → IsDistinct name_eq (names (after change c))
distinct_after most (Add n size) c allowed d = distinct-insert_record (new_record n size) c allowed.0 d
distinct_after most (Pieces n ps) c allowed d = distinct-changed n (grown ps Staged) (λ r. refl) c d
distinct_after most (Break n ps why) c allowed d = distinct-changed n (broken_with ps why) (λ r. refl) c d
distinct_after most (Activate n ps) c allowed d =
    distinct-without_earlier n (changed n (grown ps Active) c) (distinct-changed n (grown ps Active) (λ r. refl) c d)
