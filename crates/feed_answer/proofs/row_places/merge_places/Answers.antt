use Rattle.std.proofs.Common.{◌≡◌, ◌≤◌, ◌∙◌, ◌++◌, ap, arith, eqb, length, sym}
use Rattle.std.specs.List.{flat_map}
use Rattle.std.proofs.lemmas.List.{take_all}
use Rattle.std.proofs.lemmas.List.Filters.{dedup_is}
use Rattle.std.proofs.lemmas.Map.Keys.{IsStrictlyIncreasing-dedup}
use Rattle.std.proofs.lemmas.List.Kept.{Contains-dedup_nat}
use Rattle.std.proofs.lemmas.List.Sorted.{Contains-permutation}
use Rattle.feed_kbart.specs.Places.{places_having}
use Rattle.feed_answer.specs.Places.{places_among}
use Rattle.feed_answer.specs.QueryValue.{asked}
use Rattle.feed_answer.proofs.Asked.{given_next, none_next}
use Rattle.feed_answer.proofs.row_places.merge_places.Goals as goal
use Rattle.feed_answer.proofs.row_places.merge_places.Goals.{in-Some+in_ok-extend_from_slice, in_default}

pub loop-place-preserved : goal.loop-place-preserved
loop-place-preserved c =
    let rows = c.args.holdings.now.rows in
    let some = asked c.args.query.now in
    let places = c.loop-place.places.items in
    elim c.match-identifier.branch [
      | in-Some+in_ok-extend_from_slice w ↦
          given_next (λ one. places_having one rows) some c.loop-place.place w.in-Some.identifier places c.match-identifier.places.items
          (sym c.identifier.ensures ∙ w.in-Some.is)
          (rw w.places-is (w.in_ok-extend_from_slice.ensures.items ∙ ap (λ l. places ++ l) w.with_identifier.ensures)) c.loop-place.invariant
      | in_default w ↦
          none_next (λ one. places_having one rows) some c.loop-place.place c.match-identifier.places.items (sym c.identifier.ensures ∙ w.in_default.is)
          (rw w.places-is c.loop-place.invariant)
    ]

pub returns-clause-ascending : goal.returns-clause-ascending
returns-clause-ascending c =
    let left = dedup_is eqb c.sort_unstable.new.self.items c.dedup.new.self.items c.dedup.ensures.filtered in
    rw left (IsStrictlyIncreasing-dedup c.sort_unstable.new.self.items c.sort_unstable.ensures.sorted)

pub returns-clause-whole : goal.returns-clause-whole
returns-clause-whole c place has =
    let left = dedup_is eqb c.sort_unstable.new.self.items c.dedup.new.self.items c.dedup.ensures.filtered in
    let past : length (asked c.args.query.now) ≤ c.loop-place.place = omega (arith, c.count-place-end.ensures, c.loop-place-test.false) in
    let all : c.loop-place.places.items ≡ places_among c.args.query.now c.args.holdings.now.rows =
    c.loop-place.invariant ∙ ap (flat_map (λ one. places_having one c.args.holdings.now.rows)) (take_all c.loop-place.place (asked c.args.query.now) past) in
    let among = rw (← all) at has in
    rw left (Contains-dedup_nat c.sort_unstable.new.self.items place (Contains-permutation c.loop-place.places.items c.sort_unstable.new.self.items place c.sort_unstable.ensures.permutation among))
