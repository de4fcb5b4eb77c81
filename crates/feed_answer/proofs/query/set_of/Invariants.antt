use Rattle.std.proofs.Common.{◌≡◌, [], drop}
use Rattle.std.specs.Prelude.{fold}
use Rattle.std.specs.BTreeSet.{insert_key}
use Rattle.feed_answer.proofs.query.set_of.Given as goal

-- the identifiers that are left, inserted into the set so far, make the set of all
abbrev pub invariant-loop-identifier : goal.invariant-loop-identifier
invariant-loop-identifier g l = fold (insert_key g.T.Ord.cmp) l.set.items (drop l.identifier-index l.identifiers) ≡ fold (insert_key g.T.Ord.cmp) [] l.identifiers
