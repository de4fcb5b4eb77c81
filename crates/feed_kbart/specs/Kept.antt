-- The rows kept while a file is read, and its skipped records.
use Rattle.std.specs.Prelude.{◌≡◌, ◌≤◌, ℕ, List, length, None, Some, Result, Ok, Err}
use Rattle.feed_kbart.specs.Files.{IsFaultOf, bad_of, bad_records, holdings_in, holdings_of}
use Rattle.feed_kbart.specs.HoldingsValue.{HoldingsValue}
use Rattle.feed_kbart.specs.Faults.{IsFullOf}
use Rattle.feed_limits.specs.Limits.{file_limit}
use Rattle.feed_kbart.specs.RowValue.{RowValue}
use Rattle.feed_kbart.specs.declared.fault.KbartFault.{KbartFault}
use Rattle.feed_kbart.specs.declared.fault.KbartFault.TheVariants.{Bad, Memory, Read, TooLong}
use Rattle.feed_kbart.specs.declared.holdings.HoldingsBuilder.{HoldingsBuilder}

-- the builder has exactly these rows and skipped records
abbrev pub IsKept : {K : Type 0} → (List RowValue → K → Type 0) → HoldingsValue → HoldingsBuilder K → Type 0
IsKept keeps held kept = keeps held.rows kept.rows × (kept.aside.items ≡ held.aside)

-- what reading records may return: the builder for good ones, why they are bad, or a failure
abbrev pub IsBuilt : {K : Type 0} → (List RowValue → K → Type 0) → List (List (List ℕ)) → Result (HoldingsBuilder K) KbartFault → Type 0
IsBuilt keeps records (Ok kept) = (bad_records records ≡ None) × IsKept keeps (holdings_in records) kept
IsBuilt keeps records (Err (Bad why)) = bad_records records ≡ Some why
IsBuilt keeps records (Err TooLong) = ⊥
IsBuilt keeps records (Err Memory) = Unit {0}
IsBuilt keeps records (Err Read) = Unit {0}

-- what reading a file may return: the builder for a good text within the limit, or a fault
abbrev pub IsKeptOf : {K : Type 0} → (List RowValue → K → Type 0) → List ℕ → Result (HoldingsBuilder K) KbartFault → Type 0
IsKeptOf keeps text (Ok kept) = (length text ≤ file_limit) × (bad_of text ≡ None) × IsKept keeps (holdings_of text) kept
IsKeptOf keeps text (Err fault) = IsFaultOf text fault

-- what the holdings that are kept may be returned as; `Memory` says nothing about them
abbrev pub AreHeld : HoldingsValue → Result HoldingsValue KbartFault → Type 0
AreHeld held (Ok holdings) = holdings ≡ held
AreHeld held (Err fault) = IsFullOf held.rows fault
