-- A check that reads a file in windows.
use Rattle.std.specs.Prelude.{◌≡◌, ◌-◌, ℕ, List, Option, None, Some}
use Rattle.feed_kbart.specs.ListChecks.{IsCheckOfList}
use Rattle.feed_model.specs.History.{byte_at, or_else}
use Rattle.feed_model.specs.Content.{IsText, Part, Record, byte_in}
use Rattle.feed_releases.specs.declared.file_check.FileCheck.{FileCheck}

-- the most bytes that are read at once
abbrev pub window : ℕ
window = 131072

-- the text that a check received is that of the parts up to its place
pub record HasRead (parts : List Part) (running : FileCheck) : Type 0 where
  pub text : List ℕ
  pub is : IsText running.next parts text
  pub check : IsCheckOfList text running.check

-- the check received the bytes that the parts have before its place
abbrev pub IsCheckOf : List Part → FileCheck → Type 0
IsCheckOf parts running = ∥ HasRead parts running ∥₁

-- the parts have the stored bytes, and at the other places those of a piece
abbrev pub IsUnion : List Part → List Part → ℕ → List ℕ → Type 0
IsUnion parts kept first bytes = (place : ℕ) → byte_in parts place ≡ or_else (byte_in kept place) (byte_at first bytes place)

-- these places, if the first one is stored
abbrev pub unread_from : Option ℕ → ℕ → ℕ
unread_from None places = 0
unread_from (Some byte) places = places

-- how many bytes of the file the check did not receive yet, if the next one is stored; otherwise it can receive none
abbrev pub unread_of : Record → FileCheck → ℕ
unread_of r running = unread_from (byte_in r.parts running.next) (r.size - running.next)
