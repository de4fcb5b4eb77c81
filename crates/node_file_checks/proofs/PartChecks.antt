-- The checks of a part one after the other.
use Rattle.std.proofs.Common.{◌≡◌, ℕ, List, Option, Some, None, true, sym, inl, inr}
use Rattle.std.proofs.lemmas.Bool.{cases_Bool}
use Rattle.std.proofs.lemmas.Option.{none-some}
use Rattle.feed_model.specs.History.{History}
use Rattle.node_file_checks.specs.FileChecks.{has_size}
use Rattle.node_file_checks.specs.PartChecks.{IsGateMismatch, IsPartMismatch, IsSumMismatch, size_mismatch}
use Rattle.node_file_checks.specs.declared.file_check.FileCheck.{FileCheck}
use Rattle.node_file_checks.specs.declared.file_check.Mismatch.{Mismatch}
use Rattle.node_file_checks.specs.declared.file_check.Mismatch.TheVariants as mismatch
use Rattle.node_file_checks.specs.declared.shrink_gate.ShrinkGate.{ShrinkGate}

has_it : (wanted : Option ℕ) (size : ℕ) → size_mismatch wanted size ≡ None → has_size wanted size ≡ true
has_it wanted size fits = elim (cases_Bool (has_size wanted size)) [
  | inl e ↦ e
  | inr e ↦ absurd (none-some mismatch.Size (sym (rw e at fits)))
]

-- the length fits, and the digest differs
pub sum_differs : (h : History) (package_name : List ℕ) (check : FileCheck) (seen : List ℕ) (first : ℕ) (bytes : List ℕ) (size : ℕ) (why : Mismatch)
    → size_mismatch check.expected.size size ≡ None → IsSumMismatch check.expected.sum seen first bytes size (Some why)
    → IsPartMismatch h package_name check seen first bytes size (Some why)
sum_differs h package_name check seen first bytes size mismatch.Sum fits differs = (has_it check.expected.size size fits, differs)
sum_differs h package_name check seen first bytes size _ fits differs = absurd differs

-- a gate finds no fault of another check
no_size : (h : History) (package_name : List ℕ) (gate : Option ShrinkGate) (seen : List ℕ) (first : ℕ) (bytes : List ℕ) (size : ℕ)
    → IsGateMismatch h package_name gate seen first bytes size (Some mismatch.Size) → ⊥
no_size h package_name None seen first bytes size is = none-some mismatch.Size (sym is)
no_size h package_name (Some gate) seen first bytes size is = is

no_sum : (h : History) (package_name : List ℕ) (gate : Option ShrinkGate) (seen : List ℕ) (first : ℕ) (bytes : List ℕ) (size : ℕ)
    → IsGateMismatch h package_name gate seen first bytes size (Some mismatch.Sum) → ⊥
no_sum h package_name None seen first bytes size is = none-some mismatch.Sum (sym is)
no_sum h package_name (Some gate) seen first bytes size is = is

-- the length and the digest fit, and the gate decides
pub gate_decides : (h : History) (package_name : List ℕ) (check : FileCheck) (seen : List ℕ) (first : ℕ) (bytes : List ℕ) (size : ℕ) (result : Option Mismatch)
    → size_mismatch check.expected.size size ≡ None → IsSumMismatch check.expected.sum seen first bytes size None
    → IsGateMismatch h package_name check.gate seen first bytes size result → IsPartMismatch h package_name check seen first bytes size result
gate_decides h package_name check seen first bytes size (Some mismatch.Size) fits may is = absurd (no_size h package_name check.gate seen first bytes size is)
gate_decides h package_name check seen first bytes size (Some mismatch.Sum) fits may is = absurd (no_sum h package_name check.gate seen first bytes size is)
gate_decides h package_name check seen first bytes size _ fits may is = (has_it check.expected.size size fits, (may, is))
