-- Parts that are looked at one after another.
use Rattle.std.proofs.Common.{◌<◌, ◌≤◌, ◌↔◌, ℕ, List, [], ◌∷◌, length}
use Rattle.std.specs.List.{All}
use Rattle.std.proofs.lemmas.List.Elements.{All-nil, All-cons, All-head, All-tail}
use Rattle.feed_model.specs.Reply.{max_piece}
use Rattle.feed_model.specs.Content.{Part, end_of, ArePartsFrom}
use Rattle.feed_model.specs.Parts.{AreWithin}

-- all the parts are in order and inside just if the rest are, from a place on
abbrev pub IsChecked : ℕ → List Part → ℕ → List Part → Type 0
IsChecked size all place rest = AreWithin size all ↔ (ArePartsFrom place rest × All (λ p. end_of p ≤ size) rest)

pub checked_start : (size : ℕ) (all : List Part) → IsChecked size all 0 all
checked_start size all = (λ w. (w.parts, w.inside), λ w. record { parts = w.0; inside = w.1 })

pub checked_next : (size : ℕ) (all : List Part) (place : ℕ) (p : Part) (rest : List Part) → place ≤ p.first → 0 < length p.bytes → length p.bytes ≤ max_piece → end_of p ≤ size
    → IsChecked size all place (p ∷ rest) → IsChecked size all (end_of p) rest
checked_next size all place p rest le some small inside is =
    (λ w. (let r = is.0 w in (r.0.3, All-tail (λ q. end_of q ≤ size) p rest r.1)), λ w. is.1 ((le, some, small, w.0), All-cons (λ q. end_of q ≤ size) p rest inside w.1))

pub checked_all : (size : ℕ) (all : List Part) (place : ℕ) → IsChecked size all place [] → AreWithin size all
checked_all size all place is = is.1 (tt, All-nil (λ q. end_of q ≤ size))

pub checked_not : (size : ℕ) (all : List Part) (place : ℕ) (p : Part) (rest : List Part) → IsChecked size all place (p ∷ rest)
    → (place ≤ p.first → 0 < length p.bytes → length p.bytes ≤ max_piece → end_of p ≤ size → ⊥) → AreWithin size all → ⊥
checked_not size all place p rest is wrong w =
    let r = is.0 w in
    wrong r.0.0 r.0.1 r.0.2 (All-head (λ q. end_of q ≤ size) p rest r.1)
