-- The SQL statements of a change, and what it means that they were run.
use Rattle.std.specs.Prelude.{◌≡◌, ◌++◌, ◌==◌, if◌then◌else◌, ℕ, List, [], ◌∷◌, Option, Some, None, Result, OnOk, pos, map, true}
use Rattle.sqlite.specs.Held.{Held, state}
use Rattle.sqlite.specs.State.{HasCleanDisk}
use Rattle.sqlite_trees.specs.declared.store.Store.{Ghosts}
use Rattle.sqlite_value.specs.declared.value.Value.TheVariants.{Int, Text, Blob}
use Rattle.sqlite_value.specs.Order.{Row}
use Rattle.feed_names.specs.ReleaseName.{Name, text_of}
use Rattle.feed_kbart.specs.declared.fault.BadFile.{BadFile}
use Rattle.feed_kbart.specs.declared.fault.BadFile.TheVariants.{NoHeader}
use Rattle.feed_model.specs.declared.state.State.{State}
use Rattle.feed_model.specs.declared.state.State.TheVariants.{Staged, Broken, Active}
use Rattle.feed_model.specs.Change.{Change, Add, Pieces, Break, Activate}
use Rattle.feed_model.specs.Content.{Part, Record}
use Rattle.feed_store_model.specs.Tables.{IsStored, number_of, reason_at}
use Rattle.feed_store_write.specs.Effects.{IsRun}
use Rattle.feed_store_write.specs.Texts.{layout_text, release_text, piece_text, reason_text, insert_version_text, set_version_text}
use Rattle.feed_store_write.specs.Texts.{insert_release_text, insert_piece_text, insert_reason_text, set_state_text, delete_releases_text}

-- a statement, with what it stores or deletes
pub data Statement : Type 0 where
  Plain : (text : List ℕ) → Statement
  AddRelease : (name : Name) (size : ℕ) (state : State) → Statement
  AddPart : (name : Name) (part : Part) → Statement
  AddReason : (name : Name) (why : BadFile) → Statement
  SetState : (name : Name) (state : State) → Statement
  DeleteEarlier : (name : Name) → Statement

-- the values of the parameters of each kind of statement
abbrev pub release_params : Name → ℕ → State → Row
release_params n size s = Text (text_of n) ∷ Text n.package_name ∷ Int n.day ∷ Int (pos size) ∷ Int (pos (number_of s)) ∷ []

abbrev pub part_params : Name → Part → Row
part_params n p = Text (text_of n) ∷ Int (pos p.first) ∷ Blob p.bytes ∷ []

abbrev pub reason_params : Name → ℕ → ℕ → Row
reason_params n number place = Text (text_of n) ∷ Int (pos number) ∷ Int (pos place) ∷ []

abbrev pub state_params : Name → State → Row
state_params n s = Text (text_of n) ∷ Int (pos (number_of s)) ∷ []

abbrev pub earlier_params : Name → Row
earlier_params n = Text n.package_name ∷ Int n.day ∷ []

-- the numbers store the reason, if it can be stored
abbrev pub AreNumbersOf : BadFile → ℕ → ℕ → Type 0
AreNumbersOf why number place = IsStored why → reason_at number place ≡ Some why

-- the statement has this text and these values
abbrev pub IsWritten : Statement → List ℕ → Row → Type 0
IsWritten (Plain t) text params = (text ≡ t) × (params ≡ [])
IsWritten (AddRelease n size s) text params = (text ≡ insert_release_text) × (params ≡ release_params n size s)
IsWritten (AddPart n p) text params = (text ≡ insert_piece_text) × (params ≡ part_params n p)
IsWritten (AddReason n why) text params = (text ≡ insert_reason_text) × (number : ℕ) × (place : ℕ) × (params ≡ reason_params n number place) × AreNumbersOf why number place
IsWritten (SetState n s) text params = (text ≡ set_state_text) × (params ≡ state_params n s)
IsWritten (DeleteEarlier n) text params = (text ≡ delete_releases_text) × (params ≡ earlier_params n)

-- SQLite ran these statements inside the transaction, one after another, and nothing else
abbrev pub HaveRun : {S : Type 0} → Ghosts S → List Statement → Held S → Held S → Type 0
HaveRun {S} store [] old new = new ≡ old
HaveRun {S} store (statement ∷ more) old new =
    (text : List ℕ) × (params : Row) × IsWritten statement text params × (mid : Held S) × IsRun text params (state store old) (state store mid) × HaveRun store more mid new

-- a call that succeeds has run them
abbrev pub HaveRunOnOk : {S X E : Type 0} → Ghosts S → List Statement → Held S → Held S → Result X E → Type 0
HaveRunOnOk store statements old new result = HasCleanDisk (state store new) → OnOk result (HaveRun store statements old new)

-- the database is what these statements made of it in one transaction, whatever else it has
abbrev pub IsCommitted : {S : Type 0} → Ghosts S → List Statement → Held S → Held S → Type 0
IsCommitted {S} store statements old new =
    (made : Held S) × HaveRun store statements (record old { in_transaction = true }) made × ((state store new).now ≡ (state store made).now)

-- the statements of a change
abbrev pub statements_of : Change → List Statement
statements_of (Add n size) = if size == 0 then AddRelease n 0 Broken ∷ AddReason n NoHeader ∷ [] else AddRelease n size Staged ∷ []
statements_of (Pieces n ps) = map (AddPart n) ps
statements_of (Break n ps why) = (map (AddPart n) ps ++ SetState n Broken ∷ []) ++ AddReason n why ∷ []
statements_of (Activate n ps) = (map (AddPart n) ps ++ SetState n Active ∷ []) ++ DeleteEarlier n ∷ []

-- those that create the tables
abbrev pub creation : List Statement
creation = Plain layout_text ∷ Plain release_text ∷ Plain piece_text ∷ Plain reason_text ∷ Plain insert_version_text ∷ []

-- those that add the reason of a name, if there is one
abbrev pub reason_of : Name → Option BadFile → List Statement
reason_of n None = []
reason_of n (Some why) = AddReason n why ∷ []

-- those that add the reasons of records
abbrev pub reasons_of : List Record → List Statement
reasons_of [] = []
reasons_of (r ∷ rs) = reason_of r.name r.reason ++ reasons_of rs

-- those that upgrade the tables of layout 1
abbrev pub upgrading : List Record → List Statement
upgrading records = Plain reason_text ∷ Plain set_version_text ∷ reasons_of records
