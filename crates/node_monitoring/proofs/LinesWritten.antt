-- The bytes of lines that a writer accepted.
use Rattle.std.proofs.Common.{◌≡◌, ◌≤◌, ◌+◌, ◌-◌, ℕ, List, length, take, drop, Option, arith, sym, subst}
use Rattle.std.proofs.lemmas.List.{length-drop, take_rest}
use Rattle.std.proofs.Math.Seq.{take-add}
use Rattle.std.specs.Io.KnownBytes.{Appends}
use Rattle.std.proofs.KnownBytes.{Appends-trans}

-- the next bytes of a text behind those that were written
pub written_more : (old mid new : Option (List ℕ)) (text : List ℕ) (at n : ℕ) → at ≤ length text
    → n ≤ length (take (length text - at) (drop at text)) → Appends old mid (take at text)
    → Appends mid new (take n (take (length text - at) (drop at text))) → (at + n ≤ length text) × Appends old new (take (at + n) text)
written_more old mid new text at n below within front next =
    let rest : take (length text - at) (drop at text) ≡ drop at text = take_rest text at in
    let fits : n ≤ length text - at = subst (λ k. n ≤ k) (length-drop at text) (subst (λ t. n ≤ length t) rest within) in
    (omega arith, subst (Appends old new) (sym (take-add at n text)) (Appends-trans old mid new _ _ front (subst (λ t. Appends mid new (take n t)) rest next)))
