use Rattle.std.proofs.Common.{◌≡◌, ◌∙◌, ℕ, List, map, ap, subst, sym, Bor, IsPermutation}
use Rattle.std.proofs.lemmas.List.Sorted.{IsPermutation-map}
use Rattle.form_urlencoded.specs.Form as form
use Rattle.feed_openurl.specs.Dropped.{dropped_in}
use Rattle.feed_openurl.proofs.Counting.{found_moved, now}
use Rattle.feed_openurl.proofs.dropped.dropped_keys.Goals as goal

pub returns : goal.returns
returns c =
    let keys = dropped_in (form.parse c.args.text.now) in
    let read : map now c.in_ok-keys.keys.items ≡ keys = c.in_ok-keys.ensures ∙ ap dropped_in (c.deref.ensures.value ∙ c.in_ok-pairs.ensures) in
    let moved : IsPermutation keys (map now c.deref-2.result.now) =
    subst (λ (ks : List (List ℕ)). IsPermutation ks (map now c.deref-2.result.now)) read
    (subst (λ (l : List (Bor (List ℕ))). IsPermutation (map now c.in_ok-keys.keys.items) (map now l)) (sym c.deref-2.ensures.value)
    (IsPermutation-map now _ _ c.sort_unstable.ensures.permutation)) in
    found_moved (λ found. found.items) keys (map now c.deref-2.result.now) c.count_keys.result moved c.count_keys.ensures
