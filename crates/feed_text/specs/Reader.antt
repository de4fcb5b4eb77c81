-- A reader of records: its configuration, and what it has left.
use Rattle.std.specs.Prelude.{◌≡◌, ◌<◌, ◌⊎◌, ◌∷◌, ℕ, Bool, List, [], Option, Some, None, length, true, false}
use Rattle.csv.specs.Reading.{Ready, has_failed, is_flexible, source_of}
use Rattle.csv.specs.declared.reader.Reader.{Reader}
use Rattle.csv.specs.declared.reader.Trim.TheVariants as trim
use Rattle.csv.specs.declared.parser.Config.{Config}
use Rattle.csv.specs.declared.parser.State.{State}
use Rattle.csv.specs.declared.parser.State.TheVariants as state
use Rattle.csv.specs.declared.parser.Terminator.TheVariants as terminator
use Rattle.feed_text.specs.Records.{records_in}

-- fields are separated by tabs; quotes are ordinary characters
abbrev pub tabs : Config
tabs = record { delimiter = 9; quote = 34; escape = None; double_quote = true; quoting = false; comment = None; terminator = terminator.CRLF }

-- it treats the first record like the others, and records may differ in length
pub record IsRecordReader {R : Type 0} (reader : Reader R) : Type 0 where
  pub trims : reader.trim ≡ trim.None
  pub config : reader.config ≡ tabs
  pub flexible : is_flexible reader ≡ true
  pub ready : Ready reader

-- its source failed or memory ran out, so it gives no more records
abbrev pub IsStopped : {R : Type 0} → Reader R → Type 0
IsStopped reader = has_failed reader ≡ true

-- a parser is between two records
abbrev pub IsStart : State → Type 0
IsStart s = (s ≡ state.StartRecord) ⊎ (s ≡ state.AfterCr)

-- a reader between two records has yet to read this text
abbrev pub HasLeft : {R : Type 0} → (R → Option (List ℕ)) → Reader R → List ℕ → Type 0
HasLeft rem reader text = IsStart reader.state × (source_of rem reader ≡ Some text)

-- the first record of a text was read, and the text after it is left; or the text has no record
abbrev pub IsNextRecord : {R : Type 0} → (R → Option (List ℕ)) → Reader R → Bool → List (List ℕ) → List ℕ → Type 0
IsNextRecord rem reader true fields text = (left : List ℕ) × HasLeft rem reader left × (length left < length text)
    × (records_in text ≡ fields ∷ records_in left)
IsNextRecord rem reader false fields text = records_in text ≡ []
