use Rattle.std.proofs.Common.{inr, refl, rules}
use Rattle.std.specs.Prelude.{vec_capacity}
use Rattle.std.specs.Vec.Iter.{into_iter_items}
use Rattle.feed_releases.proofs.Reopened.{reopening_begun}
use Rattle.feed_releases.proofs.feed.reopen.Reopening.of.Goals as goal

pub returns-in-Ok-false-clause-err : goal.returns-in-Ok-false-clause-err
returns-in-Ok-false-clause-err c =
    let current = rw c.deref.ensures.value at c.in-Ok-false.ensures in
    inr (refl, λ sound. (let t = current.1 sound.current in let f = c.in-Ok-false.field-0-test in absurd (cc)))

pub invariant_of-result : goal.invariant_of-result
invariant_of-result c =
    let current = rw c.deref.ensures.value at c.in-Ok-true.ensures in
    reopening_begun c.in-Ok.releases.items c.args.records.items (into_iter_items c.into_iter.result) (vec_capacity c.in-Ok.releases) (search rules) (search rules) c.requires.distinct
    (current.0 (search rules)) (search rules) (search rules)
