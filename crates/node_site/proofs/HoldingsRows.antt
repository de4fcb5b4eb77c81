-- The rows of a holdings file as they are read.
use Rattle.std.proofs.Common.{◌≡◌, ℕ, ◌+◌, ◌<◌, ◌≤◌, ◌==◌, true, false, List, [], ◌∷◌, ◌++◌, Some, None, length, drop, get_or, filter, count_by, refl, sym, ap, ◌∙◌, append_assoc}
use Rattle.std.proofs.lemmas.List.{drop_more}
use Rattle.std.proofs.lemmas.List.Sums.{count_by-le-length}
use Rattle.node_site.specs.declared.holdings_fault.BadLine.{BadLine}
use Rattle.node_site.specs.declared.entry.Entry.{Entry}
use Rattle.node_site.specs.HoldingsEntries.{entries_at, entry_at}
use Rattle.node_site.specs.HoldingsFaults.{first_fault, line_fault}
use Rattle.node_site.specs.HoldingsFiles.{begins_row, starts_from}
use Rattle.node_site.specs.HoldingsIndex.{places_behind, places_from}

other_byte : (text rest : List ℕ) (place b : ℕ) → (b == 10) ≡ false → filter (begins_row text) (starts_from place (b ∷ rest)) ≡ filter (begins_row text) (starts_from (place + 1) rest)
other_byte text rest place b other = rw other refl

line_feed : (text rest : List ℕ) (place b : ℕ) → (b == 10) ≡ true
    → filter (begins_row text) (starts_from place (b ∷ rest)) ≡ filter (begins_row text) ((place + 1) ∷ starts_from (place + 1) rest)
line_feed text rest place b feed = rw feed refl

-- behind a byte other than a line feed are the rows behind the next one
pub behind_other : (text : List ℕ) (place : ℕ) → place < length text → (get_or text place 0 == 10) ≡ false → places_behind text place ≡ places_behind text (place + 1)
behind_other text place within other =
    ap (λ (bytes : List ℕ). filter (begins_row text) (starts_from place bytes)) (drop_more text place 0 within)
    ∙ other_byte text (drop (place + 1) text) place (get_or text place 0) other

-- behind a line feed begins a line
pub behind_feed : (text : List ℕ) (place : ℕ) → place < length text → (get_or text place 0 == 10) ≡ true → places_behind text place ≡ places_from text (place + 1)
behind_feed text place within feed =
    ap (λ (bytes : List ℕ). filter (begins_row text) (starts_from place bytes)) (drop_more text place 0 within)
    ∙ line_feed text (drop (place + 1) text) place (get_or text place 0) feed

-- an empty line is not a row
pub empty_line : (text : List ℕ) (place : ℕ) → begins_row text place ≡ false → places_from text place ≡ places_behind text place
empty_line text place empty = rw empty refl

pub one_row : (text : List ℕ) (place : ℕ) → begins_row text place ≡ true → places_from text place ≡ place ∷ places_behind text place
one_row text place row = rw row refl

-- a row without a fault
pub fine_row : (text : List ℕ) (place : ℕ) → begins_row text place ≡ true → line_fault text place ≡ None
    → first_fault text (places_from text place) ≡ first_fault text (places_behind text place)
fine_row text place row fine = ap (first_fault text) (one_row text place row) ∙ rw fine refl

-- a row with a fault
pub bad_row : (text : List ℕ) (place : ℕ) (fault : BadLine) → begins_row text place ≡ true → line_fault text place ≡ Some fault
    → first_fault text (places_from text place) ≡ Some fault
bad_row text place fault row bad = ap (first_fault text) (one_row text place row) ∙ rw bad refl

-- the entry of a row behind those before it
pub pushed_row : (text : List ℕ) (before after : List Entry) (place : ℕ) → begins_row text place ≡ true → after ≡ before ++ entry_at text place ∷ []
    → before ++ entries_at text (places_from text place) ≡ after ++ entries_at text (places_behind text place)
pushed_row text before after place row is =
    ap (λ (places : List ℕ). before ++ entries_at text places) (one_row text place row)
    ∙ sym (ap (λ (entries : List Entry). entries ++ entries_at text (places_behind text place)) is ∙ append_assoc before (entry_at text place ∷ []) (entries_at text (places_behind text place)))

-- a place where a row may begin, with the rows behind it
pub ruleset row_rules = (empty_line, fine_row, bad_row, pushed_row)

-- a text has no more line feeds than bytes
pub few_feeds : (text : List ℕ) → count_by (λ b. b == 10) text ≤ length text
few_feeds text = count_by-le-length (λ b. b == 10) text
