-- The checks of one fetch together: what they let pass, and why not the rest.
use Rattle.std.specs.Prelude.{◌≡◌, ◌+◌, ◌-◌, ◌&&◌, ◌||◌, ◌==◌, not, ℕ, Bool, true, false, ⊤, MatchBool, if◌then◌else◌, nat_lt, min, List, length, is_some}
use Rattle.std.specs.Prelude.{Option, Some, None, IfSome, Ok, Err}
use Rattle.feed_http.specs.declared.fetching.got.Got.{Got}
use Rattle.feed_http.specs.declared.fetching.got.Got.TheVariants as got
use Rattle.feed_model.specs.History.{History}
use Rattle.node_file_checks.specs.FileChecks.{HasSeen, MayTake, has_size}
use Rattle.node_file_checks.specs.RowCounts.{HasCounted, seen_with}
use Rattle.node_file_checks.specs.ShrinkGates.{IsChecked}
use Rattle.node_file_checks.specs.declared.file_check.FileCheck.{FileCheck}
use Rattle.node_file_checks.specs.declared.file_check.Mismatch.{Mismatch}
use Rattle.node_file_checks.specs.declared.file_check.Mismatch.TheVariants as mismatch
use Rattle.node_file_checks.specs.declared.shrink_gate.ShrinkGate.{ShrinkGate}
use Rattle.node_file_checks.specs.declared.shrink_gate.Hindrance.TheVariants.{Held, OtherRange, Memory}

-- the bytes of the file are read from its front on: its digest is compared, or its rows are counted
abbrev pub reads_from_front : FileCheck → Bool
reads_from_front check = is_some check.expected.sum || is_some check.gate

-- exactly these bytes arrived of such a file
pub record HasReceived (check : FileCheck) (seen : List ℕ) : Type 0 where
  pub sum : (wanted : List ℕ) → check.expected.sum ≡ Some wanted → HasSeen check.front seen
  pub rows : IfSome check.gate (λ gate. HasCounted gate.rows seen)

-- the range that is requested in place of a missing one: that behind these bytes, until the file ends
abbrev pub front_range : FileCheck → List ℕ → ℕ → Option (ℕ × ℕ)
front_range check seen piece =
    if reads_from_front check && nat_lt (length seen) check.size
    then Some (length seen, min (length seen + piece) check.size - 1)
    else None

-- how the file of a request differs by its length, if it does
abbrev pub size_mismatch : Option ℕ → ℕ → Option Mismatch
size_mismatch wanted size = if has_size wanted size then None else Some mismatch.Size

-- how a file differs whose bytes do not arrive from its front on
abbrev pub range_mismatch : FileCheck → Mismatch
range_mismatch check = if is_some check.expected.sum then mismatch.Sum else mismatch.Range

-- bytes of a file may be submitted by the digest that is wanted, if one is
abbrev pub MayTakeOf : Option (List ℕ) → List ℕ → ℕ → List ℕ → ℕ → Type 0
MayTakeOf None seen first bytes size = ⊤
MayTakeOf (Some wanted) seen first bytes size = MayTake seen first bytes size wanted

-- how bytes of a file differ by the digest that is wanted: only if they may not be submitted
abbrev pub IsSumMismatch : Option (List ℕ) → List ℕ → ℕ → List ℕ → ℕ → Option Mismatch → Type 0
IsSumMismatch wanted seen first bytes size None = MayTakeOf wanted seen first bytes size
IsSumMismatch wanted seen first bytes size (Some mismatch.Sum) = ¬ (MayTakeOf wanted seen first bytes size)
IsSumMismatch wanted seen first bytes size _ = ⊥

-- how they differ by the rows, if there is a bound on these
abbrev pub IsGateMismatch : History → List ℕ → Option ShrinkGate → List ℕ → ℕ → List ℕ → ℕ → Option Mismatch → Type 0
IsGateMismatch h package_name None seen first bytes size result = result ≡ None
IsGateMismatch h package_name (Some gate) seen first bytes size None = IsChecked h package_name gate.percent seen first bytes size (Ok tt)
IsGateMismatch h package_name (Some gate) seen first bytes size (Some (mismatch.Rows held)) = IsChecked h package_name gate.percent seen first bytes size (Err (Held held))
IsGateMismatch h package_name (Some gate) seen first bytes size (Some mismatch.Range) = IsChecked h package_name gate.percent seen first bytes size (Err OtherRange)
IsGateMismatch h package_name (Some gate) seen first bytes size (Some mismatch.Memory) = IsChecked h package_name gate.percent seen first bytes size (Err Memory)
IsGateMismatch h package_name (Some gate) seen first bytes size _ = ⊥

-- the result of the check of bytes from the place `first` on, behind those that arrived, of a file of this length. The
-- file differs by its length exactly if it has another one than is wanted. Otherwise it differs by its digest exactly
-- if the bytes may not be submitted by it, and otherwise by its rows exactly as the bound says
abbrev pub IsPartMismatch : History → List ℕ → FileCheck → List ℕ → ℕ → List ℕ → ℕ → Option Mismatch → Type 0
IsPartMismatch h package_name check seen first bytes size (Some mismatch.Size) = has_size check.expected.size size ≡ false
IsPartMismatch h package_name check seen first bytes size (Some mismatch.Sum) =
    (has_size check.expected.size size ≡ true) × ¬ (MayTakeOf check.expected.sum seen first bytes size)
IsPartMismatch h package_name check seen first bytes size result =
    (has_size check.expected.size size ≡ true)
    × (MayTakeOf check.expected.sum seen first bytes size × IsGateMismatch h package_name check.gate seen first bytes size result)

-- the same for a part of a response, which has to begin behind the bytes that arrived if these are read from the front
-- on
abbrev pub IsPieceMismatch : History → List ℕ → FileCheck → List ℕ → ℕ → List ℕ → Option Mismatch → Type 0
IsPieceMismatch h package_name check seen first bytes result =
    MatchBool (reads_from_front check && not (first == length seen)) (result ≡ Some (range_mismatch check))
    (IsPartMismatch h package_name check seen first bytes check.size result)

-- the same for the result of a request for the release
abbrev pub IsMismatch : History → List ℕ → FileCheck → List ℕ → Got → Option Mismatch → Type 0
IsMismatch h package_name check seen (got.Size size) result = result ≡ size_mismatch check.expected.size size
IsMismatch h package_name check seen (got.Piece first total bytes) result = IsPieceMismatch h package_name check seen first bytes result
IsMismatch h package_name check seen (got.Whole bytes) result = IsPartMismatch h package_name check seen 0 bytes (length bytes) result
IsMismatch h package_name check seen _ result = result ≡ None

-- the bytes that arrived, with those of such a result
abbrev pub seen_after : List ℕ → Got → List ℕ
seen_after seen (got.Piece first total bytes) = seen_with seen first bytes
seen_after seen (got.Whole bytes) = seen_with seen 0 bytes
seen_after seen _ = seen

-- the length of the file, by the response to the HEAD
abbrev pub size_after : ℕ → Got → ℕ
size_after size (got.Size stated) = stated
size_after size _ = size
