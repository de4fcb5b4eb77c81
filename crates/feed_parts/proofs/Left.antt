-- The parts that a piece meets, from a place on.
use Rattle.std.proofs.Common.{◌≡◌, ◌<◌, ◌≤◌, ◌+◌, ◌⊎◌, inl, inr, max, ℕ, List, [], ◌∷◌, None, IsSome, All, length, get_or, drop, sym, subst, ◌∙◌, arith}
use Rattle.std.proofs.lemmas.Bool.{cases_lt}
use Rattle.std.proofs.lemmas.List.Elements.{All-head, All-tail}
use Rattle.feed_model.specs.History.{byte_at}
use Rattle.feed_model.specs.Content.{Part, byte_in, end_of}
use Rattle.feed_model.specs.Parts.{AreWithin}
use Rattle.feed_parts.specs.declared.part.Part as code_part
use Rattle.feed_parts.specs.Shown.{shown_part, shown_parts}
use Rattle.feed_parts.proofs.Rest.{next}
use Rattle.feed_parts.proofs.Places.{some_is, first_none, first_some, byte_at_after, byte_at_inside, none_before, starts_earlier}

-- what all parts have from the place up to the end of the piece is in these
pub record IsLeft (size end : ℕ) (all : List Part) (place : ℕ) (rest : List Part) : Type 0 where
  pub order : AreWithin size rest
  pub begins : All (λ p. p.first < end) rest
  pub same : (at : ℕ) → place ≤ at → at < end → byte_in rest at ≡ byte_in all at

-- all parts that the piece meets are left at its start
pub left_start : (size end : ℕ) (all : List Part) (place : ℕ) (rest : List Part) → AreWithin size rest → All (λ p. p.first < end) rest
    → ((at : ℕ) → place ≤ at → at < end → byte_in rest at ≡ byte_in all at) → IsLeft size end all place rest
left_start size end all place rest order begins same = record { order = order; begins = begins; same = same }

-- the part that a loop takes next is the first that is left
pub left_at : (size end : ℕ) (all : List Part) (place : ℕ) (ps : List code_part.Part) (i : ℕ) (p : code_part.Part) → i < length ps → p ≡ get_or ps i p
    → IsLeft size end all place (shown_parts (drop i ps)) → IsLeft size end all place (shown_part p ∷ shown_parts (drop (i + 1) ps))
left_at size end all place ps i p lt is = subst (IsLeft size end all place) (next ps i p lt is)

module _ (size end : ℕ) (all : List Part) (place : ℕ) (p : Part) (rest : List Part) (left : IsLeft size end all place (p ∷ rest)) where
  pub left_starts : p.first < end
  left_starts = All-head (λ q. q.first < end) p rest left.begins

  pub left_ends : end_of p ≤ size
  left_ends = All-head (λ q. end_of q ≤ size) p rest left.order.inside

  pub left_missing : (at : ℕ) → place ≤ at → at < end → at < p.first → byte_in all at ≡ None
  left_missing at le lt before =
      let parts = left.order.parts in
      sym (left.same at le lt) ∙ none_before p.first (p ∷ rest) (omega arith, parts.1, parts.2, parts.3) at before

  pub left_kept : (at : ℕ) → place ≤ at → at < end → p.first ≤ at → at < end_of p → IsSome (byte_in all at)
  left_kept at le lt from to =
      some_is (byte_in all at) _ (sym (left.same at le lt) ∙ first_some (byte_at p.first p.bytes at) (byte_in rest at) _ (byte_at_inside p.first p.bytes at from to))

  pub left_next : (next : ℕ) → place ≤ next → end_of p ≤ next → IsLeft size end all next rest
  left_next next le past = record {
    order = record {
      parts = starts_earlier (end_of p) 0 rest (omega arith) left.order.parts.3;
      inside = All-tail (λ q. end_of q ≤ size) p rest left.order.inside;
    };
    begins = All-tail (λ q. q.first < end) p rest left.begins;
    same = λ at from lt. sym (first_none (byte_at p.first p.bytes at) (byte_in rest at) (byte_at_after p.first p.bytes at (omega arith))) ∙ left.same at (omega arith) lt;
  }

  -- no gap in front of the next part
  pub kept_more : (first next : ℕ) → ((at : ℕ) → first ≤ at → at < place → at < end → IsSome (byte_in all at)) → p.first ≤ place → next ≡ max place (end_of p) → (at : ℕ)
      → first ≤ at → at < next → at < end → IsSome (byte_in all at)
  kept_more first next kept le is at from lt below = by (cases_lt at place)
    where
      by : (at < place) ⊎ (place ≤ at) → IsSome (byte_in all at)
      by (inl before) = kept at from before below
      by (inr past) = left_kept at past below (omega arith) (omega arith)

-- Nothing is left.
pub left_none : (size end : ℕ) (all : List Part) (place : ℕ) → IsLeft size end all place [] → (at : ℕ) → place ≤ at → at < end → byte_in all at ≡ None
left_none size end all place left at le lt = sym (left.same at le lt)
