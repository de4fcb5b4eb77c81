use Rattle.std.proofs.Common.{◌≡◌, ◌≤◌, ◌∙◌, ap, arith, length, subst, take, List}
use Rattle.std.specs.Prelude.{insert}
use Rattle.node_hits.specs.Hits.{ReleaseHitValue, rank_of}
use Rattle.node_hits.specs.Tallies.{shown_limit}
use Rattle.node_hits.specs.Tallying.{IsPlaceOf, with_top}
use Rattle.node_hits.proofs.Tops.{few_ranked, full, place_is, stays_ranked}
use Rattle.node_hits.proofs.top.Top.add.Goals as goal
use Rattle.node_hits.proofs.top.Top.add.Goals.{After-place_of-place}

pub place_of-place-requires : goal.place_of-place-requires
place_of-place-requires c = rw c.deref.ensures.value c.self.invariant.0

within : (c : After-place_of-place) → c.place_of-place.result ≤ length c.self.inside.hits.items
within c = subst (λ (hits : List ReleaseHitValue). c.place_of-place.result ≤ length hits) c.deref.ensures.value c.place_of-place.ensures.bound

split : (c : After-place_of-place) → IsPlaceOf (rank_of c.args.found) c.self.inside.hits.items c.place_of-place.result
split c =
    subst (λ rank. IsPlaceOf rank c.self.inside.hits.items c.place_of-place.result) c.rank.ensures
    (subst (λ (hits : List ReleaseHitValue). IsPlaceOf c.rank.result hits c.place_of-place.result) c.deref.ensures.value c.place_of-place.ensures.split)

pub returns-then-place-ge-SHOWN_LIMIT : goal.returns-then-place-ge-SHOWN_LIMIT
returns-then-place-ge-SHOWN_LIMIT c =
    let hits : List ReleaseHitValue = c.self.inside.hits.items in
    let at = (goal.at.returns-then-place-ge-SHOWN_LIMIT c).After-place_of-place in
    subst (λ (top : List ReleaseHitValue). top ≡ with_top top c.args.found) c.self.view_is
    (full hits c.args.found c.place_of-place.result (within at) c.self.invariant.1 (omega (arith, c.if-place-ge-SHOWN_LIMIT.true))
    ∙ ap (λ p. take shown_limit (insert hits p c.args.found)) (place_is (rank_of c.args.found) hits c.place_of-place.result (within at) (split at)))

pub invariant_of-self : goal.invariant_of-self
invariant_of-self c = rw c.in_err-insert.ensures.items c.self.invariant

pub invariant_of-self-2 : goal.invariant_of-self-2
invariant_of-self-2 c =
    let hits : List ReleaseHitValue = c.self.inside.hits.items in
    let at = (goal.at.invariant_of-self-2 c).After-place_of-place in
    rw (c.truncate.ensures.items, c.in_ok-insert.ensures.items, c.in_ok-ranked.ensures)
    (few_ranked shown_limit (insert hits c.place_of-place.result c.args.found) (stays_ranked c.args.found hits c.place_of-place.result (within at) (split at) c.self.invariant.0))
