use Rattle.std.proofs.Common.{◌∙◌, subst, sym}
use Rattle.std.specs.List.{Contains, flat_map}
use Rattle.std.proofs.lemmas.List.{append-nil}
use Rattle.feed_kbart.specs.Places.{has_identifier, places_having}
use Rattle.feed_answer.specs.QueryValue.{asked}
use Rattle.feed_answer.proofs.Asked.{sole_is}
use Rattle.feed_answer.proofs.Places.{places_ascend}
use Rattle.feed_answer.proofs.row_places.places_of.Goals as goal

pub returns-in-Some-clause-ascending : goal.returns-in-Some-clause-ascending
returns-in-Some-clause-ascending c = rw c.with_identifier.ensures (places_ascend (has_identifier c.in-Some.identifier) c.args.holdings.now.rows)

pub returns-in-Some-clause-whole : goal.returns-in-Some-clause-whole
returns-in-Some-clause-whole c place has =
    let rows = c.args.holdings.now.rows in
    let one = c.in-Some.identifier in
    let alone = sole_is (asked c.args.query.now) one (sym c.sole_identifier.ensures ∙ c.in-Some.is) in
    let there = subst (λ some. Contains (flat_map (λ one. places_having one rows) some) place) alone has in
    rw c.with_identifier.ensures (subst (λ l. Contains l place) (append-nil (places_having one rows)) there)
