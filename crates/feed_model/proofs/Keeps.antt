-- Facts about contents and changes, whatever the history.
use Rattle.std.proofs.Common.{◌≡◌, ◌↔◌, ◌<◌, ℕ, zero, suc, List, Option, Some, None, IsSome, refl, sym, subst, arith, ◌+◌, ◌⊎◌, inl, inr}
use Rattle.feed_model.specs.Reply.{missing_below}
use Rattle.feed_model.specs.Content.{Part, Record, byte_in}
use Rattle.feed_model.specs.Change.{merged, IsCompleteWith}

-- no place is missing exactly if each has a byte
pub none_missing : (f : ℕ → Option ℕ) (n : ℕ) → (missing_below f n ≡ 0) ↔ ((place : ℕ) → place < n → IsSome (f place))
none_missing f n = (each n, none n)
  where
    each : (n : ℕ) → missing_below f n ≡ 0 → (place : ℕ) → place < n → IsSome (f place)
    each zero e place lt = absurd (omega arith)
    each (suc n) e place lt = by (f n) refl (each n)
      where
        at : (m : ℕ) → (m ≡ n → IsSome (f m)) → (m < n → IsSome (f m)) → m < suc n → IsSome (f m)
        at m here below in' = pick (grind arith)
          where
            pick : (m ≡ n) ⊎ (m < n) → IsSome (f m)
            pick (inl e) = here e
            pick (inr less) = below less

        by : (o : Option ℕ) → f n ≡ o → (missing_below f n ≡ 0 → (place : ℕ) → place < n → IsSome (f place)) → IsSome (f place)
        by None is again = absurd (let u : missing_below f n + 1 ≡ 0 = rw is at e in omega arith)
        by (Some x) is again =
            let rest : missing_below f n ≡ 0 = (let u : missing_below f n + 0 ≡ 0 = rw is at e in omega arith) in
            at place (λ same. subst (λ (m : ℕ). IsSome (f m)) (sym same) (subst IsSome (sym is) refl)) (λ less. again rest place less) lt

    none : (n : ℕ) → ((place : ℕ) → place < n → IsSome (f place)) → missing_below f n ≡ 0
    none zero all = refl
    none (suc n) all = by (f n) refl (none n (λ place lt. all place (omega arith))) (all n (omega arith))
      where
        has : (o : Option ℕ) → IsSome o → o ≡ None → ⊥
        has None some is = absurd (cc some)
        has (Some x) some is = absurd (cc is)

        by : (o : Option ℕ) → f n ≡ o → missing_below f n ≡ 0 → IsSome (f n) → missing_below f (suc n) ≡ 0
        by None is again some = absurd (has (f n) some is)
        by (Some x) is again some = let u : missing_below f n + 0 ≡ 0 = omega (arith, again) in rw is u

pub completes_by : (r : Record) (ps : List Part) → missing_below (byte_in (merged r.parts ps)) r.size ≡ 0 → IsCompleteWith ps r
completes_by r ps none = (none_missing (byte_in (merged r.parts ps)) r.size).0 none
