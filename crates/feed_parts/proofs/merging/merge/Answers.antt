use Rattle.std.proofs.Common.{◌≡◌, ◌++◌, ◌∙◌, ℕ, length, drop, take, take_at, drop_at, IsPermutation, length-append, sym, ap, subst, arith}
use Rattle.std.specs.List.Sorted.{IsNonDecreasingBy}
use Rattle.feed_parts.specs.Shown.{shown_parts}
use Rattle.feed_parts.proofs.Order.{starts_rise}
use Rattle.feed_parts.proofs.Unique.{sorted_merged, parts_from_merged}
use Rattle.feed_parts.proofs.merging.merge.Goals as goal
use Rattle.feed_parts.proofs.merging.merge.Goals.{After-deref_mut}

-- what is sorted is the kept parts and the new ones
both : (c : After-deref_mut) → c.deref_mut.result.now ≡ c.args.parts.now.items ++ c.args.new.items
both c = c.deref_mut.ensures.value ∙ c.in-Ok.ensures.items

pub merge_runs-requires : goal.merge_runs-requires
merge_runs-requires c =
    let old = c.args.parts.now.items in
    let new = c.args.new.items in
    let kept : ℕ = c.len-kept.result in
    let is = both (goal.at.merge_runs-requires c).After-deref_mut in
    let len : length old ≡ kept = omega (arith, c.len-kept.ensures, c.args.parts.now.ok.0) in
    record {
      within = omega (arith, ap length is, length-append old new);
      front = subst (IsNonDecreasingBy (λ p. p.first)) (sym (ap (take kept) is ∙ take_at old new kept len))
          (starts_rise 0 old (parts_from_merged 0 (shown_parts old) (shown_parts new) c.requires.apart));
      back = subst (IsNonDecreasingBy (λ p. p.first)) (sym (ap (drop kept) is ∙ drop_at old new kept len)) (starts_rise 0 new c.requires.order);
    }

pub returns : goal.returns
returns c =
    let old = c.args.parts.now.items in
    let new = c.args.new.items in
    let now = c.merge_runs.new.parts in
    let is = both (goal.at.returns c).After-deref_mut in
    let moved = subst (λ ps. IsPermutation ps now) is c.merge_runs.ensures.permutation in
    let back = take_at now (drop (length now) c.append.new.self.items) c.append.new.self.len (omega (arith, c.merge_runs.auto.parts, c.deref_mut.ensures.len, c.append.new.self.ok.0)) in
    ap shown_parts back ∙ sorted_merged old new now c.requires.apart moved c.merge_runs.ensures.sorted
