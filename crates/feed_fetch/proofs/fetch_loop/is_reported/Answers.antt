use Rattle.std.proofs.Common.{◌≡◌, of_z, w32, List, ℕ, Some, None, sym, ◌∙◌, ap, subst}
use Rattle.feed_model.specs.History.{Reports}
use Rattle.feed_fetch.proofs.Fetches.{reported_none, reported_day, reported_good, reported_current, same_day}
use Rattle.feed_fetch.proofs.fetch_loop.is_reported.Goals as goal

pub returns-in-Some-clause-good : goal.returns-in-Some-clause-good
returns-in-Some-clause-good g c h is ahead good =
    let at : Reports h c.args.name.now.package_name (Some c.in-Some.active.now) = subst (λ (s : List ℕ). Reports h s (Some c.in-Some.active.now)) c.package.ensures.value (c.in-Some.ensures h is) in
    let e : c.day.result ≡ c.day-in-Some.result = c.day.ensures ∙ reported_day h c.args.name.now c.in-Some.active.now ahead good at ∙ sym c.day-in-Some.ensures in
    same_day _ _ (ap (of_z w32) e)

pub returns-in-None-clause-good : goal.returns-in-None-clause-good
returns-in-None-clause-good g c h is ahead good =
    let at : Reports h c.args.name.now.package_name None = subst (λ (s : List ℕ). Reports h s None) c.package.ensures.value (c.in-None.ensures h is) in
    absurd (reported_none h c.args.name.now good at)

pub returns-in-Some-clause-found : goal.returns-in-Some-clause-found
returns-in-Some-clause-found g c h is reported =
    returns-in-Some-clause-good g c h is (reported_current h c.args.name.now reported) (reported_good h c.args.name.now reported)

pub returns-in-None-clause-found : goal.returns-in-None-clause-found
returns-in-None-clause-found g c h is reported =
    returns-in-None-clause-good g c h is (reported_current h c.args.name.now reported) (reported_good h c.args.name.now reported)
