-- The history of a feed (its events and answers), and the state of each release that follows from it.
use Rattle.std.specs.Prelude.{◌≡◌, ◌≢◌, ◌<◌, ◌-◌, ℕ, Bool, true, false, ◌&&◌, if◌then◌else◌, nat_le, List}
use Rattle.std.specs.Prelude.{[], ◌∷◌, length, Option, Some, None, Result, Ok, slice_get, IsSome, MatchOption, ◌≤ℤ◌}
use Rattle.feed_names.specs.ReleaseName.{Name, name_eq, IsEarlier}
use Rattle.feed_model.specs.declared.reply.Reply.{Reply}
use Rattle.feed_model.specs.declared.reply.Reply.TheVariants.{Noted, Stored, Activated, Broken}
use Rattle.feed_model.specs.declared.reply.Refusal.{Refusal}
use Rattle.feed_model.specs.File.{fault_of}

-- an event of a feed: a release is offered, with the size of its file; bytes of a file arrive, from a place on that
-- counts from 0, with the size of the file if the sender gave it; a requested piece does not arrive. Bytes and sizes
-- are arbitrary
pub data Event : Type 0 where
  Offered : (name : Name) (size : ℕ) → Event
  Piece : (name : Name) (first : ℕ) (total : Option ℕ) (bytes : List ℕ) → Event
  Lost : (name : Name) → Event

-- an answer of a feed: a reply or a refusal
abbrev pub Answer : Type 0
Answer = Result Reply Refusal

-- each event with its answer, the newest first. No code keeps one: only definitions use it
abbrev pub History : Type 0
History = List (Event × Answer)

-- the answer to an offer records the release: Noted, or Broken for an empty file
abbrev pub is_noted : Answer → Bool
is_noted (Ok Noted) = true
is_noted (Ok (Broken why)) = true
is_noted _ = false

-- the answer keeps a piece
abbrev pub is_taken : Answer → Bool
is_taken (Ok (Stored missing)) = true
is_taken (Ok Activated) = true
is_taken (Ok (Broken why)) = true
is_taken _ = false

-- the first, or otherwise the second
abbrev pub or_else : {A : Type 0} → Option A → Option A → Option A
or_else (Some x) o = Some x
or_else None o = o

-- the byte at a place, of bytes that begin at first
abbrev pub byte_at : ℕ → List ℕ → ℕ → Option ℕ
byte_at first bytes place = if nat_le first place then slice_get bytes (place - first) else None

-- the size in the offer that recorded the release
abbrev pub size_of : History → Name → Option ℕ
size_of [] n = None
size_of ((Offered m size, answer) ∷ h) n = if is_noted answer && name_eq m n then Some size else size_of h n
size_of ((Piece m first total bytes, answer) ∷ h) n = size_of h n
size_of ((Lost m, answer) ∷ h) n = size_of h n

-- the byte kept at a place: that of the first piece that was kept and has the place, whatever a later piece has there
abbrev pub kept : History → Name → ℕ → Option ℕ
kept [] n place = None
kept ((Offered m size, answer) ∷ h) n place = kept h n place
kept ((Piece m first total bytes, answer) ∷ h) n place = if is_taken answer && name_eq m n then or_else (kept h n place) (byte_at first bytes place) else kept h n place
kept ((Lost m, answer) ∷ h) n place = kept h n place

-- the text is the complete file of the release: it has the size, and at each place the kept byte, in however many
-- pieces and in whatever order the bytes arrived
abbrev pub IsFile : History → Name → List ℕ → Type 0
IsFile h n text = (size_of h n ≡ Some (length text)) × ((place : ℕ) → place < length text → kept h n place ≡ slice_get text place)

-- the release is complete: it was recorded, and no place of its file is missing
abbrev pub IsWhole : History → Name → Type 0
IsWhole h n = (text : List ℕ) × IsFile h n text

-- the release is complete, and its file is good; a release that misses a place is neither good nor bad
abbrev pub IsGood : History → Name → Type 0
IsGood h n = (text : List ℕ) × IsFile h n text × (fault_of text ≡ None)

-- the release is complete, and its file is bad
abbrev pub IsBad : History → Name → Type 0
IsBad h n = (text : List ℕ) × IsFile h n text × (fault_of text ≢ None)

-- the release has the latest day of all complete and good releases of its package, whichever was completed last
abbrev pub IsActive : History → Name → Type 0
IsActive h n = IsGood h n × ((m : Name) → m.package_name ≡ n.package_name → IsGood h m → m.day ≤ℤ n.day)

-- the active release of a package; none exactly if no release of the package is complete and good
abbrev pub Reports : History → List ℕ → Option Name → Type 0
Reports h package_name o = MatchOption o ((m : Name) → m.package_name ≡ package_name → IsGood h m → ⊥) (λ n. (n.package_name ≡ package_name) × IsActive h n)

-- the active release of its package is later; the release itself may never have been offered
abbrev pub IsPassed : History → Name → Type 0
IsPassed h n = (a : Name) × IsActive h a × IsEarlier n a

-- the release was recorded, and no later release of its package is active. It stays held if its file is bad, and if its
-- day is later than that of the active release
abbrev pub IsHeld : History → Name → Type 0
IsHeld h n = IsSome (size_of h n) × ¬ (IsPassed h n)
