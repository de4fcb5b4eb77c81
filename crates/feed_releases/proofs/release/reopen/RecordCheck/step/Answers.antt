use Rattle.std.proofs.Common.{inr, refl, sym}
use Rattle.feed_releases.proofs.Judged.{sound_stands, stands_as}
use Rattle.feed_releases.proofs.ReadAhead.{some_to_read}
use Rattle.feed_releases.proofs.release.reopen.RecordCheck.step.Goals as goal

pub returns-then-not-is_recorded_as-clause-err : goal.returns-then-not-is_recorded_as-clause-err
returns-then-not-is_recorded_as-clause-err c =
    let i = c.self.inside in
    let so = rw c.in-Ok-Done.field-0-is at c.in-Ok-Done.ensures in
    inr (
      refl,
      λ sound.
          let is = sound_stands i.name i.size i.state i.reason i.kept.parts i.kept.parts c.in-Ok-Done.standing refl so (rw (← c.self.view_is) at sound) in
          (let t = c.is_recorded_as.ensures.1 is in let f = c.if-not-is_recorded_as.true in absurd (cc)),
    )

pub returns-else-not-is_recorded_as-clause-ok : goal.returns-else-not-is_recorded_as-clause-ok
returns-else-not-is_recorded_as-clause-ok c =
    let i = c.self.inside in
    let so = rw c.in-Ok-Done.field-0-is at c.in-Ok-Done.ensures in
    let is = c.is_recorded_as.ensures.0 (rw c.if-not-is_recorded_as.false refl) in
    let sound = stands_as i.name i.size i.state i.reason i.kept.parts i.kept.parts c.in-Ok-Done.standing refl (sym is.0) (sym is.1) c.self.invariant.within c.self.invariant.limit so in
    rw (← c.self.view_is) (sound.0, sound.1, some_to_read i.size i.running)
