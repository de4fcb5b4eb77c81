-- The hits that a response shows are few, and their texts are short.
use Rattle.std.proofs.Common.{◌≡◌, ◌≤◌, ◌<◌, ◌-◌, ◌&&◌, ℕ, Bool, true, false, List, [], ◌∷◌, length, refl, subst, sym, arith}
use Rattle.std.specs.Prelude.{if◌then◌else◌, nat_lt, sum_by}
use Rattle.std.proofs.lemmas.Bool.Decides.{nat_tests}
use Rattle.std.proofs.lemmas.List.Sums.{sum_by-cons}
use Rattle.node_hits.specs.Hits.{ReleaseHitValue}
use Rattle.node_hits.specs.Laws.{ShownHitsAreBounded}
use Rattle.node_hits.specs.Tallies.{first_within, shown_limit, text_limit, text_size}

abbrev IsWithin : ℕ → ℕ → List ReleaseHitValue → Type 0
IsWithin places bytes hits = (length hits ≤ places) × (sum_by text_size hits < bytes)

one_more : (places bytes : ℕ) (found : ReleaseHitValue) (rest : List ReleaseHitValue) (a b : Bool) → 0 < bytes
    → nat_lt 0 places ≡ a → nat_lt 0 (bytes - text_size found) ≡ b
    → (0 < bytes - text_size found → IsWithin (places - 1) (bytes - text_size found) rest)
    → IsWithin places bytes (if a && b then found ∷ rest else [])
one_more places bytes found rest true true some e f later =
    let left : 0 < bytes - text_size found = grind (arith, nat_tests, f) in
    let room : 0 < places = grind (arith, nat_tests, e) in
    let (few, short) = later left in
    (omega (arith, few, room), subst (λ n. n < bytes) (sym (sum_by-cons text_size found rest)) (omega (arith, short, left)))
one_more places bytes found rest true false some e f later = (omega arith, some)
one_more places bytes found rest false b some e f later = (omega arith, some)

within : (places bytes : ℕ) (hits : List ReleaseHitValue) → 0 < bytes → IsWithin places bytes (first_within places bytes hits)
within places bytes [] some = (omega arith, some)
within places bytes (found ∷ more) some =
    one_more places bytes found (first_within (places - 1) (bytes - text_size found) more) (nat_lt 0 places) (nat_lt 0 (bytes - text_size found)) some refl refl
    (within (places - 1) (bytes - text_size found) more)

pub shown_hits_are_bounded : ShownHitsAreBounded
shown_hits_are_bounded hits = within shown_limit text_limit hits (omega arith)
