-- The holdings of a file are those kept of the records of its text.
use Rattle.std.proofs.Common.{◌≡◌, ◌≤◌, ◌<◌, ◌++◌, ◌∷◌, ◌∙◌, ℕ, List, [], Result, length, refl, arith}
use Rattle.std.specs.Prelude.{Ok, Err}
use Rattle.std.proofs.lemmas.List.{append-nil, length-append}
use Rattle.feed_limits.specs.Limits.{file_limit}
use Rattle.feed_text.specs.Checks.{IsTextFaultOf, IsValidText}
use Rattle.feed_text.specs.Records.{records_of}
use Rattle.feed_text.specs.declared.fault.TextFault.{TextFault}
use Rattle.feed_text.specs.declared.fault.TextFault.TheVariants as text
use Rattle.feed_kbart.specs.Faults.{file_fault}
use Rattle.feed_kbart.specs.Files.{IsFaultOf, IsReadOf, bad_of, holdings_of}
use Rattle.feed_kbart.specs.HoldingsValue.{HoldingsValue}
use Rattle.feed_kbart.specs.Index.{AreIndexed, IsIndexOf}
use Rattle.feed_kbart.specs.IndexedStores.{AreStoredAndIndexed}
use Rattle.feed_kbart.specs.Kept.{AreHeld, IsBuilt, IsKept, IsKeptOf}
use Rattle.feed_kbart.specs.RowValue.{RowValue}
use Rattle.feed_kbart.specs.Store.{AreStored, HaveRows, stored_rows}
use Rattle.std.proofs.Props.{props}
use Rattle.std.proofs.Math.Logic.{∥∥₁_elim}
use Rattle.feed_kbart.specs.declared.identifiers.Identifiers.{Identifiers}
use Rattle.feed_kbart.specs.declared.index.Index.{Index}
use Rattle.feed_kbart.specs.declared.index_builder.IndexBuilder.{IndexBuilder}
use Rattle.feed_kbart.specs.declared.indexed_store.IndexedStore.{IndexedStore}
use Rattle.feed_kbart.specs.declared.holdings.HoldingsBuilder.{HoldingsBuilder}
use Rattle.feed_kbart.specs.declared.row_store.RowStore.{RowStore}
use Rattle.feed_kbart.specs.declared.fault.KbartFault.{KbartFault}
use Rattle.feed_kbart.specs.declared.fault.KbartFault.TheVariants as fault
use Rattle.feed_kbart.proofs.Tabled.{few_rows}

-- a text that was not read makes a fault of the file
pub fault_of_text : (bytes : List ℕ) (why : TextFault) → IsTextFaultOf bytes why → IsFaultOf bytes (file_fault why)
unfolding bad_of
fault_of_text bytes text.NotUtf8 is = (is.0, rw is.1 refl)
fault_of_text bytes text.TwoMarks is = (is.0, rw (is.1, is.2) refl)
fault_of_text bytes text.Memory is = tt
fault_of_text bytes text.Read is = tt
fault_of_text bytes text.TooLong is = is

kept-valid : {K : Type 0} (keeps : List RowValue → K → Type 0) (text : List ℕ) (result : Result (HoldingsBuilder K) KbartFault) → IsValidText text
    → IsBuilt keeps (records_of text) result → IsKeptOf keeps text result
unfolding holdings_of bad_of
kept-valid keeps text (Ok kept) is b = (is.0, rw (is.1, is.2) b.0, b.1)
kept-valid keeps text (Err (fault.Bad why)) is b = (is.0, rw (is.1, is.2) b)
kept-valid keeps text (Err fault.Memory) is b = tt
kept-valid keeps text (Err fault.Read) is b = tt
kept-valid keeps text (Err fault.TooLong) is b = absurd b

-- what is kept of the records of a valid text is kept of the text
pub kept_of_text : {K : Type 0} (keeps : List RowValue → K → Type 0) (text : List ℕ) (result : Result (HoldingsBuilder K) KbartFault) → IsValidText text
    → (length text ≤ file_limit → IsBuilt keeps (records_of text) result) → IsKeptOf keeps text result
kept_of_text keeps text result is built = kept-valid keeps text result is (built is.0)

-- the rows of a store
pub rows_of_store : (rows : List RowValue) (store : RowStore) → AreStored rows store → stored_rows store ≡ rows
rows_of_store rows store are = rw (append-nil store.block.items) at (are [])

-- the rows that are kept are those of a holdings list
pub read_of_kept : {K : Type 0} (keeps : List RowValue → K → Type 0) (text : List ℕ) (kept : HoldingsBuilder K) (holdings : HoldingsValue)
    → IsKeptOf keeps text (Ok kept) → ((held : HoldingsValue) → IsKept keeps held kept → holdings ≡ held) → IsReadOf text (Ok holdings)
read_of_kept keeps text kept holdings k is = (k.0, k.1, is (holdings_of text) k.2)

-- the same with an index, which holdings with too many rows do not have
pub read_of_held : (text : List ℕ) (kept : HoldingsBuilder IndexedStore) (result : Result HoldingsValue KbartFault) → IsKeptOf AreStoredAndIndexed text (Ok kept)
    → ((held : HoldingsValue) → IsKept AreStoredAndIndexed held kept → AreHeld held result) → IsReadOf text result
read_of_held text kept result k is = go result (is (holdings_of text) k.2)
  where
    go : (result : Result HoldingsValue KbartFault) → AreHeld (holdings_of text) result → IsReadOf text result
    go (Ok holdings) same = (k.0, k.1, same)
    go (Err fault.Memory) full = tt
    go (Err fault.TooLong) full = absurd (omega (arith, full, few_rows text, k.0))
    go (Err (fault.Bad why)) full = absurd full
    go (Err fault.Read) full = absurd full

-- the index of the rows of a store
pub index_of_store : (store : RowStore) (builder : IndexBuilder) (rows : List RowValue) (index : Index) → ∥ HaveRows store builder ∥₁
    → length (stored_rows store) ≤ file_limit → rows ≡ stored_rows store
    → ((rows : List RowValue) → length rows ≤ file_limit → AreIndexed rows builder → IsIndexOf rows index) → IsIndexOf rows index
index_of_store store builder rows index have few are indexed =
    ∥∥₁_elim have (hlevel props) (λ h.
    let same = rows_of_store h.0 store h.1 in
    let small : length h.0 ≤ file_limit = rw same at few in
    rw (are ∙ same) (indexed h.0 small (h.2 small)))

-- a row that is added to both
pub indexed_more : (rows : List RowValue) (row : RowValue) (identifiers : Identifiers) (old new : IndexBuilder) → row.identifiers ≡ identifiers
    → ((rows : List RowValue) (row : RowValue) → length rows < file_limit → row.identifiers ≡ identifiers → AreIndexed rows old → AreIndexed (rows ++ row ∷ []) new)
    → (length rows ≤ file_limit → AreIndexed rows old) → length (rows ++ row ∷ []) ≤ file_limit → AreIndexed (rows ++ row ∷ []) new
indexed_more rows row identifiers old new same adds are few =
    let small : length rows < file_limit = omega (arith, few, length-append rows (row ∷ [])) in
    adds rows row small same (are (omega (arith, small)))
