use Rattle.std.proofs.Common.{◌≡◌, ◌≤◌, ◌+◌, ℕ, List, map, take, get_or}
use Rattle.std.specs.Borrow.{Bor}
use Rattle.feed_openurl.proofs.Counting.{IsCounting}
use Rattle.feed_openurl.proofs.dropped.count_keys.Given as goal

abbrev pub invariant-loop-key : goal.invariant-loop-key
invariant-loop-key l = record {
  counting : IsCounting (map (λ key. key.now) (take (l.key-index + 1) l.keys)) l.current l.count l.found.items;
  last : (d : Bor (List ℕ)) → (get_or l.keys l.key-index d).now ≡ l.current;
  bound : l.count ≤ l.key-index + 1;
}
