-- The changes of a keeper's content.
use Rattle.std.specs.Prelude.{◌≡◌, ◌<◌, ◌≤◌, ◌==◌, ◌&&◌, ℕ, Bool, not, nat_lt, if◌then◌else◌, List, [], ◌∷◌, length, Some, None, IsSome, int_lt, filter, All}
use Rattle.std.specs.Ordering.{is_lt, nat_cmp}
use Rattle.std.specs.Cmp.Lexicographic.{slice_cmp, pointwise}
use Rattle.feed_names.specs.ReleaseName.{Name, name_eq, text_of, IsEarlier}
use Rattle.feed_kbart.specs.declared.fault.BadFile.{BadFile}
use Rattle.feed_kbart.specs.declared.fault.BadFile.TheVariants.{NoHeader}
use Rattle.feed_model.specs.File.{fault_of}
use Rattle.feed_model.specs.declared.state.State.{State}
use Rattle.feed_model.specs.declared.state.State.TheVariants.{Staged, Broken, Active}
use Rattle.feed_model.specs.Reply.{max_file, max_held}
use Rattle.feed_model.specs.Content.{Part, Record, Content, record_of, byte_in, end_of, IsText, AreParts}

-- a change of a keeper: it records an offered release; or it adds parts to a staged one, which stays staged, is broken
-- for a reason, or becomes active
pub data Change : Type 0 where
  Add : (name : Name) (size : ℕ) → Change
  Pieces : (name : Name) (parts : List Part) → Change
  Break : (name : Name) (parts : List Part) (reason : BadFile) → Change
  Activate : (name : Name) (parts : List Part) → Change

-- inserts a part among others, in front of the first that begins later
abbrev pub insert_part : Part → List Part → List Part
insert_part p [] = p ∷ []
insert_part p (q ∷ qs) = if nat_lt p.first q.first then p ∷ q ∷ qs else q ∷ insert_part p qs

-- inserts parts among others, one after another
abbrev pub merged : List Part → List Part → List Part
merged parts [] = parts
merged parts (p ∷ ps) = merged (insert_part p parts) ps

-- the record with these parts too, and this state
abbrev pub grown : List Part → State → Record → Record
grown ps state r = record { name = r.name; size = r.size; state = state; reason = r.reason; parts = merged r.parts ps }

-- the record with these parts too, broken for this reason
abbrev pub broken_with : List Part → BadFile → Record → Record
broken_with ps why r = record { name = r.name; size = r.size; state = Broken; reason = Some why; parts = merged r.parts ps }

-- the text of the one name is less than that of the other
abbrev pub comes_before : Name → Name → Bool
comes_before m n = is_lt (slice_cmp nat_cmp (text_of m) (text_of n))

-- inserts a record among others, behind those whose names are less than its own
abbrev pub insert_record : Record → Content → Content
insert_record r [] = r ∷ []
insert_record r (x ∷ xs) = if comes_before x.name r.name then x ∷ insert_record r xs else r ∷ x ∷ xs

-- the content with the record of this name changed
abbrev pub changed : Name → (Record → Record) → Content → Content
changed n f [] = []
changed n f (r ∷ rs) = if name_eq r.name n then f r ∷ rs else r ∷ changed n f rs

-- the first release is of an earlier day of the same package
abbrev pub is_earlier : Name → Name → Bool
is_earlier m n = pointwise ◌==◌ m.package_name n.package_name && int_lt m.day n.day

-- the content without the package's records of earlier days
abbrev pub without_earlier : Name → Content → Content
without_earlier n c = filter (λ r. not (is_earlier r.name n)) c

-- the record of a release that is offered: an empty file is complete, and bad
abbrev pub new_record : Name → ℕ → Record
new_record n size = record {
  name = n;
  size = size;
  state = if size == 0 then Broken else Staged;
  reason = if size == 0 then Some NoHeader else None;
  parts = [];
}

-- the content after a change. Activate also drops the package's records of earlier days, which are passed from now on;
-- records of later days and of other packages stay
abbrev pub after : Change → Content → Content
after (Add n size) c = insert_record (new_record n size) c
after (Pieces n ps) c = changed n (grown ps Staged) c
after (Break n ps why) c = changed n (broken_with ps why) c
after (Activate n ps) c = without_earlier n (changed n (grown ps Active) c)

-- the record is staged, and can take these parts: there is at least one, they are in order and inside the file, and
-- they overlap no kept part
pub record TakesParts (c : Content) (n : Name) (ps : List Part) (r : Record) : Type 0 where
  pub found : record_of c n ≡ Some r
  pub staged : r.state ≡ Staged
  pub some : 0 < length ps
  pub parts : AreParts ps
  pub apart : AreParts (merged r.parts ps)
  pub inside : All (λ p. end_of p ≤ r.size) ps

-- with these parts no place is missing
abbrev pub IsCompleteWith : List Part → Record → Type 0
IsCompleteWith ps r = (place : ℕ) → place < r.size → IsSome (byte_in (merged r.parts ps) place)

-- with these parts the file is bad for this reason
abbrev pub IsBadWith : List Part → BadFile → Record → Type 0
IsBadWith ps why r = (text : List ℕ) × IsText r.size (merged r.parts ps) text × (fault_of text ≡ Some why)

-- no active record of the package is later
abbrev pub NoneIsLater : Content → Name → Type 0
NoneIsLater c n = (a : Record) → record_of c a.name ≡ Some a → a.state ≡ Active → ¬ (IsEarlier n a.name)

-- the precondition of a change, for a keeper that has room for this many records. A keeper does not check files: it keeps
-- the reason that it is given
abbrev pub IsAllowedWithin : ℕ → Change → Content → Type 0
IsAllowedWithin most (Add n size) c = (record_of c n ≡ None) × (length c < most) × (size ≤ max_file)
IsAllowedWithin most (Pieces n ps) c = (r : Record) × TakesParts c n ps r
IsAllowedWithin most (Break n ps why) c = (r : Record) × TakesParts c n ps r × IsCompleteWith ps r × IsBadWith ps why r
IsAllowedWithin most (Activate n ps) c = (r : Record) × TakesParts c n ps r × IsCompleteWith ps r × NoneIsLater c n

-- the same for a keeper of 256 records
abbrev pub IsAllowed : Change → Content → Type 0
IsAllowed change c = IsAllowedWithin max_held change c
