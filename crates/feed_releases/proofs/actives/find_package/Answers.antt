use Rattle.std.proofs.Common.{◌≡◌, ◌<◌, ◌≤◌, ◌⊎◌, ℕ, inl, inr, arith, rules}
use Rattle.std.proofs.lemmas.Fn.{always_returns_same}
use Rattle.feed_releases.proofs.PackageSearch.{by_package, differs_above, differs_below, same_package, searchable, side}
use Rattle.feed_releases.proofs.actives.find_package.Goals as goal

pub returns-in-Ok-clause-found : goal.returns-in-Ok-clause-found
returns-in-Ok-clause-found c d =
    let at = c.in-Ok.ensures.position (by_package c.args.«package».now) (always_returns_same _ _ _ (λ a r q k. search rules)) in
    same_package _ _ (at d)

pub returns-in-Err-clause-none : goal.returns-in-Err-clause-none
returns-in-Err-clause-none c k d lt =
    let sides = c.in-Err.ensures.position (by_package c.args.«package».now) (always_returns_same _ _ _ (λ a r q k. search rules)) (searchable c.args.actives.now c.args.«package».now c.requires) in
    elim (side k c.in-Err.field-0) [
      | inl low ↦ differs_below _ _ (sides.0 k d (omega arith) low)
      | inr high ↦ differs_above _ _ (sides.1 k d high lt)
    ]
