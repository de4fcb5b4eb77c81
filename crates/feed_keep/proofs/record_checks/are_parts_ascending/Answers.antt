use Rattle.std.proofs.Common.{ℕ, rules}
use Rattle.std.specs.Ordering.{is_lt, nat_cmp, on}
use Rattle.std.proofs.lemmas.Cmp.{nat_cmp_total, on_total}
use Rattle.std.proofs.lemmas.Fn.{always_returns_same}
use Rattle.feed_model.specs.Content as model
use Rattle.feed_parts.specs.declared.part.Part.{Part}
use Rattle.feed_parts.specs.Shown.{shown_part}
use Rattle.feed_keep.proofs.Strict.{answered_strict, strict_map, strict_unmap}
use Rattle.feed_keep.proofs.record_checks.are_parts_ascending.Goals as goal

pub returns : goal.returns
returns c =
    let ps = c.args.parts.now in
    let first : Part → ℕ = λ p. p.first in
    let place : model.Part → ℕ = λ p. p.first in
    let looked = c.is_sorted_by.ensures.cases (λ x y. is_lt (nat_cmp x.first y.first)) (always_returns_same _ _ _ (λ a r q k. search rules)) in
    let both = answered_strict (on first nat_cmp) (on_total first nat_cmp_total) ps c.is_sorted_by.result looked in
    (λ yes. strict_map shown_part (on place nat_cmp) ps (both.0 yes), λ up. both.1 (strict_unmap shown_part (on place nat_cmp) ps up))
