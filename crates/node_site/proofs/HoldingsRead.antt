-- The file or the fault that a reading returns.
use Rattle.std.proofs.Common.{◌≡◌, ℕ, true, List, [], Some, None, inl, inr, refl, sym, ap, ◌∙◌}
use Rattle.node_site.specs.declared.entry.Entry.{Entry}
use Rattle.node_site.specs.declared.places.Places.{Places}
use Rattle.node_site.specs.declared.holdings_fault.BadLine.{BadLine}
use Rattle.node_site.specs.declared.holdings_fault.HoldingsFault.{HoldingsFault}
use Rattle.node_site.specs.declared.holdings_fault.HoldingsFault.TheVariants.{TooLong, NotUtf8, Line, Memory}
use Rattle.toml.specs.Data.{Members}
use Rattle.node_site.specs.Held.{title_holding}
use Rattle.node_site.specs.Site.{site_of, with_listing}
use Rattle.node_site.specs.HoldingsFaults.{IsHoldingsFault, IsHoldingsFile, file_fault, first_fault}
use Rattle.node_site.specs.HoldingsFiles.{has_header, row_places, rows_of}
use Rattle.node_site.specs.HoldingsEntries.{AreEntries, IsInOrder}
use Rattle.node_site.specs.HoldingsIndex.{IsClash, IsFirstFault, IsHeadFault, IsHeaded, IsIndexed, IsPeaceful}
use Rattle.node_site.specs.HoldingsReadings.{IsRead}
use Rattle.node_site.proofs.HoldingsOrder.{consistent, contradiction}

-- behind a good header the first fault is that of the rows
rows_decide : (text : List ℕ) → has_header text ≡ true → file_fault text ≡ first_fault text (row_places text)
unfolding file_fault
rows_decide text header = rw header refl

pub head_fault_is : (text : List ℕ) (fault : HoldingsFault) → IsHeadFault text fault → IsHoldingsFault text fault
unfolding file_fault
head_fault_is text TooLong h = h
head_fault_is text NotUtf8 h = h
head_fault_is text (Line fault) h = (h.0, h.1, inl (rw h.2 (ap Some (sym h.3))))
head_fault_is text Memory h = absurd h

pub rows_fault_is : (text : List ℕ) (fault : HoldingsFault) → IsHeaded text → IsFirstFault text (row_places text) fault → IsHoldingsFault text fault
rows_fault_is text TooLong head h = absurd h
rows_fault_is text NotUtf8 head h = absurd h
rows_fault_is text (Line fault) head h = (head.fits, head.utf8, inl (rows_decide text head.header ∙ h))
rows_fault_is text Memory head h = (head.fits, head.utf8)

pub indexed : (text : List ℕ) (entries : List Entry) → IsHeaded text → AreEntries text entries → IsInOrder text entries → IsPeaceful text entries → IsIndexed text entries
indexed text entries head are up peace = record { fits = head.fits; consistent = consistent text entries are up peace; same = are; sorted = up }

pub file_is : (text : List ℕ) (entries : List Entry) (on : Places) → IsHeaded text → IsRead text entries on → IsHoldingsFile text
file_is text entries on head is =
    record { fits = head.fits; utf8 = head.utf8; is_fine = rows_decide text head.header ∙ is.fine; consistent = is.indexed.consistent }

pub clash_fault : (text : List ℕ) (entries : List Entry) (fault : BadLine) → IsHeaded text → first_fault text (row_places text) ≡ None → AreEntries text entries
    → IsClash text entries fault → IsHoldingsFault text (Line fault)
clash_fault text entries fault head fine are clash =
    (head.fits, head.utf8, inr (rows_decide text head.header ∙ fine, contradiction text entries fault are clash))

pub memory_fault : (text : List ℕ) → IsHeaded text → IsHoldingsFault text Memory
memory_fault text head = (head.fits, head.utf8)

-- without a file nothing is listed
pub no_rows : rows_of [] ≡ []
unfolding rows_of
no_rows = refl

pub nothing_found : (package_id id : List ℕ) → None ≡ title_holding package_id id (rows_of [])
nothing_found package_id id = rw no_rows refl

pub no_listing : (doc : Members) → with_listing [] (site_of doc) ≡ site_of doc
unfolding site_of
no_listing doc = refl
