use Rattle.std.proofs.Common.{◌≡◌, ◌≤◌, ◌<◌, ◌∙◌, ◌++◌, ◌-◌, List, ℕ, arith, get_or, length, subst, sym, take}
use Rattle.std.specs.Prelude.{All}
use Rattle.std.proofs.lemmas.Bool.Decides.{nat_tests}
use Rattle.node_hits.specs.Merging.{merged}
use Rattle.node_hits.proofs.Merged.{merge_before, merge_more, merge_none}
use Rattle.node_hits.proofs.row_places.merge_places.Goals as goal
use Rattle.node_hits.proofs.row_places.merge_places.Goals.{then-is_empty-via-then-is_empty, then-is_empty-via-else-is_empty+then-are_before}

pub returns-then-is_empty : goal.returns-then-is_empty
returns-then-is_empty c =
    let limit = c.args.limit in
    let one = c.args.one.items in
    let other = c.args.other.now in
    c.truncate.ensures.items ∙ elim c.then-is_empty.branch [
      | then-is_empty-via-then-is_empty w ↦ merge_none limit one other (grind (arith, nat_tests, c.is_empty.ensures, w.if-is_empty.true))
      | then-is_empty-via-else-is_empty+then-are_before w ↦
          merge_before limit one other (grind (arith, nat_tests, c.is_empty.ensures, w.if-is_empty.false))
          (subst (λ (places : List ℕ). limit ≤ length places) w.deref.ensures.value w.if-are_before.ensures.long)
          (subst (λ (places : List ℕ). All (λ place. place < get_or other 0 0) (take limit places)) w.deref.ensures.value w.if-are_before.ensures.less)
    ]

pub loop-left-preserved : goal.loop-left-preserved
loop-left-preserved c =
    let places : List ℕ = c.loop-left.places.items in
    subst (λ (after : List ℕ). after ++ merged (c.args.limit - length after) c.in-Some.rest.now c.in-Some.more.now ≡ merged c.args.limit c.args.one.items c.args.other.now)
    (sym c.in_ok-push-in-Some.ensures.items)
    (merge_more c.args.limit places c.loop-left.left.now c.loop-left.right.now c.in-Some.rest.now c.in-Some.more.now (merged c.args.limit c.args.one.items c.args.other.now)
    c.in-Some.place (omega (arith, c.loop-left-test.true, c.len.ensures)) (sym c.in-Some.ensures) c.loop-left.invariant)
