use Rattle.std.proofs.Common.{◌≡◌, ◌+◌, ◌<◌, ◌++◌, ◌∷◌, [], ◌∙◌, ℕ, List, map, take, length, get_or, true, ap, arith, subst, sym, Bor}
use Rattle.std.specs.Cmp.Lexicographic.{same_text, slice_cmp}
use Rattle.std.specs.List.Sorted.{IsSortedByKey}
use Rattle.std.specs.Ordering.{is_lt, nat_cmp}
use Rattle.std.proofs.lemmas.List.{take_all}
use Rattle.feed_openurl.specs.Dropped.{dropped}
use Rattle.feed_openurl.proofs.Counting.{IsCounting, behind, counting_again, counting_ends, counting_next, in_order, key_after, next_key, now}
use Rattle.feed_openurl.proofs.dropped.count_keys.Goals as goal
use Rattle.feed_openurl.proofs.dropped.count_keys.Goals.{then-eq, else-eq+in_ok-push_key}

pub loop-key-preserved : goal.loop-key-preserved
loop-key-preserved c =
    let keys : List (Bor (List ℕ)) = c.args.keys.now in
    let i : ℕ = c.loop-key.key-index in
    let key : Bor (List ℕ) = get_or c.in-Some.rest.now i (record { ref_ptr = (0, 0); now = [] }) in
    let current : List ℕ = c.loop-key.current.now in
    let before : List (List ℕ) = map now (take (i + 1) keys) in
    let lt : i + 1 < length keys = omega (arith, c.in-Some.ensures.cases.1, c.loop-key-test.true) in
    let here : (e : Bor (List ℕ)) → (get_or keys (i + 1) e).now ≡ key.now =
    λ e. ap now (key_after keys c.in-Some.rest.now c.in-Some.first.now _ i c.in-Some.ensures.cases.0 c.loop-key-test.true e) in
    let more : map now (take (i + 1 + 1) keys) ≡ before ++ key.now ∷ [] = next_key keys i key lt (here key) in
    elim c.if-eq.branch [
      | then-eq w ↦ (
          let same : key.now ≡ current = same_text key.now current (sym w.if-eq.true ∙ c.eq.ensures) in record {
            counting = rw (w.current-is, w.count-is, w.found-is)
                (subst (λ (ks : List (List ℕ)). IsCounting ks current (c.loop-key.count + 1) c.loop-key.found.items) (sym more)
                (counting_again before current key.now c.loop-key.count c.loop-key.found.items same c.loop-key.invariant.counting));
            last = λ e. rw w.current-is (here e ∙ same);
            bound = omega (arith, w.count-is, c.loop-key.invariant.bound);
          })
      | else-eq+in_ok-push_key w ↦ (
          let sorted : IsSortedByKey (λ key. key.now) (slice_cmp nat_cmp) keys = c.requires in
          let less : is_lt (slice_cmp nat_cmp current key.now) ≡ true =
          behind current key.now (in_order keys i key current sorted lt (here key) (c.loop-key.invariant.last key)) (sym c.eq.ensures ∙ w.if-eq.false) in
          let pushed : w.push_key.new.found.items ≡ c.loop-key.found.items ++ dropped (current, c.loop-key.count) ∷ [] = w.in_ok-push_key.ensures in record {
            counting = rw (w.current-is, w.count-is, w.found-is)
                (subst (λ (ks : List (List ℕ)). IsCounting ks key.now 1 w.push_key.new.found.items) (sym more)
                (counting_next before current key.now c.loop-key.count c.loop-key.found.items w.push_key.new.found.items less pushed c.loop-key.invariant.counting));
            last = λ e. rw w.current-is (here e);
            bound = omega (arith, w.count-is);
          })
    ]

pub returns : goal.returns
returns c =
    let keys : List (Bor (List ℕ)) = c.args.keys.now in
    let whole : take (c.loop-key.key-index + 1) keys ≡ keys = take_all (c.loop-key.key-index + 1) keys (omega (arith, c.in-Some.ensures.cases.1, c.loop-key-test.false)) in
    let pushed : c.push_key-2.new.found.items ≡ c.loop-key.found.items ++ dropped (c.loop-key.current.now, c.loop-key.count) ∷ [] = c.in_ok-push_key-2.ensures in
    counting_ends (map now keys) c.loop-key.current.now c.loop-key.count c.loop-key.found.items c.push_key-2.new.found.items pushed
    (subst (λ (ks : List (Bor (List ℕ))). IsCounting (map now ks) c.loop-key.current.now c.loop-key.count c.loop-key.found.items) whole c.loop-key.invariant.counting)
