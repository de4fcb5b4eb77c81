-- The content of a keeper, and whether it is right for a history.
use Rattle.std.specs.Prelude.{◌≡◌, ◌<◌, ◌≤◌, ◌+◌, ℕ, if◌then◌else◌, List, [], ◌∷◌, length, map, slice_get, Option, Some, None, MatchOption}
use Rattle.std.specs.List.{IsDistinct}
use Rattle.feed_names.specs.ReleaseName.{Name, name_eq}
use Rattle.feed_kbart.specs.declared.fault.BadFile.{BadFile}
use Rattle.feed_model.specs.File.{fault_of}
use Rattle.feed_model.specs.declared.state.State.{State}
use Rattle.feed_model.specs.declared.state.State.TheVariants.{Staged, Broken, Active}
use Rattle.feed_model.specs.History.{History, or_else, byte_at, size_of, kept, IsFile, IsHeld, IsWhole, IsActive, IsBad}
use Rattle.feed_model.specs.Reply.{IsLegalWith, max_piece}

-- bytes, and the place of the first of them
pub record Part : Type 0 where
  pub first : ℕ
  pub bytes : List ℕ

-- the place after the last byte
abbrev pub end_of : Part → ℕ
end_of part = part.first + length part.bytes

-- what a keeper stores of a release
pub record Record : Type 0 where
  pub name : Name
  pub size : ℕ
  pub state : State
  pub reason : Option BadFile
  pub parts : List Part

-- the records of a keeper
abbrev pub Content : Type 0
Content = List Record

-- the record of a name
abbrev pub record_of : Content → Name → Option Record
record_of [] n = None
record_of (r ∷ rs) n = if name_eq r.name n then Some r else record_of rs n

-- the names of all records, in order
abbrev pub names : Content → List Name
names rs = map (λ r. r.name) rs

-- the byte that the parts have at a place
abbrev pub byte_in : List Part → ℕ → Option ℕ
byte_in [] place = None
byte_in (p ∷ ps) place = or_else (byte_at p.first p.bytes place) (byte_in ps place)

-- the parts have the bytes of this text at every place
pub record IsText (size : ℕ) (parts : List Part) (text : List ℕ) : Type 0 where
  pub count : length text ≡ size
  pub bytes : (place : ℕ) → place < size → byte_in parts place ≡ slice_get text place

-- each part has 1 to 1,048,576 bytes, and none begins before this place or the end of the previous one; two may touch
abbrev pub ArePartsFrom : ℕ → List Part → Type 0
ArePartsFrom place [] = Unit {0}
ArePartsFrom place (p ∷ ps) = (place ≤ p.first) × (0 < length p.bytes) × (length p.bytes ≤ max_piece) × ArePartsFrom (end_of p) ps

-- the same from the first place of a file
abbrev pub AreParts : List Part → Type 0
AreParts parts = ArePartsFrom 0 parts

-- the state is right for the history. A good release that is held is the active one, so three states are enough
abbrev pub IsState : History → Name → State → Type 0
IsState h n Staged = ¬ (IsWhole h n)
IsState h n Active = IsActive h n
IsState h n Broken = IsBad h n

-- the reason is why the file of a broken release is bad; any other release has no reason
abbrev pub IsReason : History → Name → State → Option BadFile → Type 0
IsReason h n Staged reason = reason ≡ None
IsReason h n Active reason = reason ≡ None
IsReason h n Broken reason = (text : List ℕ) × IsFile h n text × (fault_of text ≡ reason)

-- the record has what the history has of the release; how its bytes are cut into parts is free
pub record IsRecord (h : History) (n : Name) (r : Record) : Type 0 where
  pub held : IsHeld h n
  pub size : size_of h n ≡ Some r.size
  pub bytes : (place : ℕ) → byte_in r.parts place ≡ kept h n place
  pub parts : AreParts r.parts
  pub state : IsState h n r.state
  pub reason : IsReason h n r.state r.reason

-- the history is legal for a feed of at most this many releases, and exactly the releases that are held have a record.
-- Many histories have the same content; the empty list is a content of the empty history
pub record IsContentWithin (most : ℕ) (c : Content) (h : History) : Type 0 where
  pub legal : IsLegalWith most h
  pub distinct : IsDistinct name_eq (names c)
  pub each : (n : Name) → MatchOption (record_of c n) (¬ (IsHeld h n)) (IsRecord h n)

-- the records of a feed, and how many it may have at most
pub record Recorded : Type 0 where
  pub most : ℕ
  pub content : Content

-- these records, of a feed that may have this many
abbrev pub within : ℕ → Content → Recorded
within most c = record { most = most; content = c }

-- the feed may have this history
abbrev pub IsContent : Recorded → History → Type 0
IsContent r h = IsContentWithin r.most r.content h
