use Rattle.std.proofs.Common.{◌≡◌, drop}
use Rattle.std.specs.Prelude.{fold}
use Rattle.feed_openurl.specs.Citations.{no_choice, taken}
use Rattle.feed_openurl.proofs.choice.best.Given as goal

-- the choice so far, and the offers that are left, make the choice of all
abbrev pub invariant-loop-offered : goal.invariant-loop-offered
invariant-loop-offered l = fold (taken l.part) l.choice (drop l.offered-index l.offers) ≡ fold (taken l.part) no_choice l.offers
