-- The next places of a file, seen from what is kept of it and from the history.
use Rattle.std.proofs.Common.{◌≡◌, ℕ, suc, Option, Some, None, IsSome, inl, inr, sym, ◌∙◌, subst}
use Rattle.feed_names.specs.ReleaseName.{Name}
use Rattle.feed_model.specs.History.{History, kept}
use Rattle.feed_model.specs.Content.{Record, Content, IsContentWithin, record_of, byte_in}
use Rattle.feed_model.proofs.Tests.{of_record}
use Rattle.feed_releases.specs.NextRange.{IsNextOf, IsNextRange}

-- the same bytes are missing
next_same : (f g : ℕ → Option ℕ) → ((place : ℕ) → f place ≡ g place) → (size max : ℕ) (range : Option (ℕ × ℕ)) → IsNextOf f size max range → IsNextOf g size max range
next_same f g same size max None (inl none) = inl none
next_same f g same size max None (inr all) = inr (λ place lt. subst IsSome (same place) (all place lt))
next_same f g same size max (Some range) next = record {
  order = next.order;
  within = next.within;
  few = next.few;
  before = λ place lt. subst IsSome (same place) (next.before place lt);
  missing = λ place low high. sym (same place) ∙ next.missing place low high;
  greatest = λ more inside. subst IsSome (same (suc range.1)) (next.greatest more inside);
}

pub next_of_record : {most : ℕ} (c : Content) (h : History) (n : Name) (r : Record) (max : ℕ) (range : Option (ℕ × ℕ)) → IsContentWithin most c h → record_of c n ≡ Some r
    → IsNextOf (byte_in r.parts) r.size max range → IsNextRange h n max range
next_of_record c h n r max range is found next =
    let there = of_record c h n r is found in
    inr (there.held, r.size, there.size, next_same (byte_in r.parts) (kept h n) there.bytes r.size max range next)
