-- A feed without events.
use Rattle.std.proofs.Common.{◌<◌, ℕ, List, [], ◌∷◌, refl, inr, arith}
use Rattle.std.specs.List.{IsDistinct}
use Rattle.feed_names.specs.ReleaseName.{Name}
use Rattle.feed_model.specs.History.{IsGood, IsPassed, IsHeld}
use Rattle.feed_model.specs.Reply.{HoldsNumber}
use Rattle.feed_model.specs.Content.{IsContent, within}
use Rattle.feed_fetch.specs.Effects.{IsOpenTo}

not_good : (n : Name) → IsGood [] n → ⊥
not_good n (text, file, good) = (let e = file.0 in cc)

not_passed : (n : Name) → IsPassed [] n → ⊥
not_passed n (a, active, earlier) = not_good a active.0

not_held : (n : Name) → IsHeld [] n → ⊥
not_held n held = (let e = held.0 in cc)

not_full : (most : ℕ) → 0 < most → HoldsNumber [] most → ⊥
not_full most some ([], distinct, each, count) = absurd (omega (arith, count))
not_full most some (n ∷ ns, distinct, each, count) = not_held n ((each n).1 (0, omega arith, refl))

-- it has nothing recorded
pub IsContent-nothing : (most : ℕ) → IsContent (within most []) []
unfolding IsDistinct
IsContent-nothing most = record { legal = tt; distinct = tt; each = not_held }

-- it is open to each file
pub IsOpenTo-nothing : (most : ℕ) (n : Name) (file : List ℕ) → 0 < most → IsOpenTo most n file []
IsOpenTo-nothing most n file some = record { current = not_passed n; size = tt; bytes = λ place byte is. absurd (cc); room = inr (not_full most some) }
