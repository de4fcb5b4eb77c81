use Rattle.std.proofs.Common.{◌≡◌, ◌∙◌, [], ap, rules}
use Rattle.std.proofs.lemmas.Fn.{always_returns_same}
use Rattle.std.proofs.lemmas.List.Sorted.{IsNonDecreasingBy-from_sort_by_key}
use Rattle.feed_model.specs.Change.{merged}
use Rattle.feed_parts.proofs.Stable.{sorted_stably}
use Rattle.feed_parts.proofs.merging.copy_in_order.Goals as goal

pub returns : goal.returns
returns c =
    sorted_stably _ _ (IsNonDecreasingBy-from_sort_by_key (λ p. p.first) _ c.in_ok-sort_by_key.ensures.sorted (λ a r q k. search rules))
    (c.in_ok-sort_by_key.ensures.stable (λ p. p.first) (always_returns_same _ (λ a r. r ≡ a.0.now.first) _ (λ a r q k. search rules)))
    ∙ ap (merged []) c.in_ok-copy.ensures
