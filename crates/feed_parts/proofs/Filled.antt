-- A file whose places are filled up to one.
use Rattle.std.proofs.Common.{◌≡◌, ◌<◌, ◌≤◌, ◌⊎◌, inl, inr, ℕ, List, ◌∷◌, None, IsSome, All, refl, ◌∙◌, arith}
use Rattle.std.proofs.lemmas.Bool.{cases_lt}
use Rattle.std.proofs.lemmas.List.Elements.{All-head, All-tail}
use Rattle.feed_model.specs.History.{byte_at}
use Rattle.feed_model.specs.Content.{Part, byte_in, end_of, ArePartsFrom}
use Rattle.feed_model.specs.Parts.{AreWithin}
use Rattle.feed_parts.proofs.Places.{some_is, first_none, first_some, byte_at_after, byte_at_inside, none_before}

-- every place below is kept, and what lies from there on is in the rest of the parts
pub record IsFilled (size : ℕ) (all : List Part) (place : ℕ) (rest : List Part) : Type 0 where
  pub below : place ≤ size
  pub parts : ArePartsFrom place rest
  pub inside : All (λ p. end_of p ≤ size) rest
  pub kept : (at : ℕ) → at < place → IsSome (byte_in all at)
  pub same : (at : ℕ) → place ≤ at → byte_in all at ≡ byte_in rest at

pub filled_start : (size : ℕ) (ps : List Part) → AreWithin size ps → IsFilled size ps 0 ps
filled_start size ps w = record { below = omega arith; parts = w.parts; inside = w.inside; kept = λ at lt. absurd (omega arith); same = λ at le. refl }

-- no gap in front of the next part
pub filled_next : (size : ℕ) (all : List Part) (place : ℕ) (p : Part) (rest : List Part) → IsFilled size all place (p ∷ rest) → p.first ≤ place → IsFilled size all (end_of p) rest
filled_next size all place p rest f le = record {
  below = All-head (λ q. end_of q ≤ size) p rest f.inside;
  parts = f.parts.3;
  inside = All-tail (λ q. end_of q ≤ size) p rest f.inside;
  kept = λ at lt. kept at lt (cases_lt at place);
  same = λ at past. f.same at (omega (arith, f.parts.0, past)) ∙ first_none (byte_at p.first p.bytes at) (byte_in rest at) (byte_at_after p.first p.bytes at past);
}
  where
    kept : (at : ℕ) → at < end_of p → (at < place) ⊎ (place ≤ at) → IsSome (byte_in all at)
    kept at lt (inl before) = f.kept at before
    kept at lt (inr from) =
        let e = byte_at_inside p.first p.bytes at (omega arith) lt in
        some_is (byte_in all at) _ (f.same at from ∙ first_some (byte_at p.first p.bytes at) (byte_in rest at) _ e)

-- a gap in front of the next part
pub missing_before : (size : ℕ) (all : List Part) (place : ℕ) (p : Part) (rest : List Part) → IsFilled size all place (p ∷ rest) → (at : ℕ) → place ≤ at → at < p.first
    → byte_in all at ≡ None
missing_before size all place p rest f at le lt =
    f.same at le ∙ none_before p.first (p ∷ rest) (omega arith, f.parts.1, f.parts.2, f.parts.3) at lt

-- the next part is kept
pub kept_next : (size : ℕ) (all : List Part) (place : ℕ) (p : Part) (rest : List Part) → IsFilled size all place (p ∷ rest) → IsSome (byte_in all p.first)
kept_next size all place p rest f =
    let e = byte_at_inside p.first p.bytes p.first (omega arith) (omega (arith, f.parts.1)) in
    some_is (byte_in all p.first) _ (f.same p.first f.parts.0 ∙ first_some (byte_at p.first p.bytes p.first) (byte_in rest p.first) _ e)

pub next_inside : (size : ℕ) (all : List Part) (place : ℕ) (p : Part) (rest : List Part) → IsFilled size all place (p ∷ rest) → end_of p ≤ size
next_inside size all place p rest f = All-head (λ q. end_of q ≤ size) p rest f.inside
