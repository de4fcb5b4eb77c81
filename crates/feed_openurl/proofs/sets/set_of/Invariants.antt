use Rattle.std.proofs.Common.{◌≡◌, ◌++◌, [], drop}
use Rattle.std.specs.Prelude.{fold}
use Rattle.std.specs.BTreeSet.{insert_key}
use Rattle.feed_openurl.proofs.sets.set_of.Given as goal

-- the set so far, and the identifiers that are left, make the set
abbrev pub invariant-loop-identifier : goal.invariant-loop-identifier
invariant-loop-identifier g l =
    fold (insert_key g.T.Ord.cmp) l.set.keys (drop l.identifier-index l.identifiers) ≡ fold (insert_key g.T.Ord.cmp) [] l.identifiers

-- the list so far, with what is left of the set, is the set
abbrev pub invariant-loop-identifier-2 : goal.invariant-loop-identifier-2
invariant-loop-identifier-2 g l = l.ascending.items ++ l.identifier-iterator ≡ fold (insert_key g.T.Ord.cmp) [] l.identifiers
