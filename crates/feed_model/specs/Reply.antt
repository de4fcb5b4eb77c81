-- The right answer to each event.
use Rattle.std.specs.Prelude.{◌≡◌, ◌≢◌, ◌<◌, ◌+◌, ◌⊎◌, ◌↔◌, ℕ, zero, suc, is_none, if◌then◌else◌}
use Rattle.std.specs.Prelude.{List, [], ◌∷◌, length, Option, Some, None, Ok, Err, slice_get, IsSome, IsSomeAnd}
use Rattle.std.specs.List.{IsDistinct, Contains}
use Rattle.feed_names.specs.ReleaseName.{Name, name_eq}
use Rattle.feed_limits.specs.Limits.{file_limit, piece_limit, release_limit}
use Rattle.feed_kbart.specs.declared.fault.BadFile.{BadFile}
use Rattle.feed_kbart.specs.declared.fault.BadFile.TheVariants.{NoHeader}
use Rattle.feed_model.specs.declared.reply.Reply.{Reply}
use Rattle.feed_model.specs.declared.reply.Reply.TheVariants as replies
use Rattle.feed_model.specs.declared.reply.Refusal.TheVariants as refusals
use Rattle.feed_model.specs.File.{fault_of}
use Rattle.feed_model.specs.History.{Event, Offered, Piece, Lost, Answer, History, or_else, byte_at, size_of, kept, IsPassed, IsHeld}

-- if the case holds, it decides; otherwise the cases after it do
abbrev pub Case : Type 0 → Type 0 → Type 0 → Type 0
Case holds here after = (holds × here) ⊎ ((¬ holds) × after)

-- this answer; or, in its place, running out of memory or a failed device. A case without this has one right answer
abbrev pub OrRefused : Answer → Type 0 → Type 0
OrRefused answer right = right ⊎ ((answer ≡ Err refusals.Memory) ⊎ (answer ≡ Err refusals.Device))

-- the same for one reply
abbrev pub Commits : Answer → Reply → Type 0
Commits answer reply = OrRefused answer (answer ≡ Ok reply)

-- the most bytes that a file may have, and a piece, and the most releases that a feed records unless it has room for more
abbrev pub max_file : ℕ
max_file = file_limit

abbrev pub max_piece : ℕ
max_piece = piece_limit

abbrev pub max_held : ℕ
max_held = release_limit

-- exactly this many releases are held
abbrev pub HoldsNumber : History → ℕ → Type 0
HoldsNumber h k = (ns : List Name) × IsDistinct name_eq ns × ((n : Name) → IsHeld h n ↔ Contains ns n) × (length ns ≡ k)

-- the number of places below a size that have no byte
abbrev pub missing_below : (ℕ → Option ℕ) → ℕ → ℕ
missing_below at zero = 0
missing_below at (suc n) = missing_below at n + (if is_none (at n) then 1 else 0)

-- the byte kept at a place once a piece is kept too: the one kept before, or otherwise that of the piece
abbrev pub kept_with : History → Name → ℕ → List ℕ → ℕ → Option ℕ
kept_with h n first bytes place = or_else (kept h n place) (byte_at first bytes place)

-- the piece differs from a kept byte
abbrev pub Differs : History → Name → ℕ → List ℕ → Type 0
Differs h n first bytes = (place x y : ℕ) × (kept h n place ≡ Some x) × (byte_at first bytes place ≡ Some y) × (x ≢ y)

-- each byte of the piece is kept
abbrev pub IsKept : History → Name → ℕ → List ℕ → Type 0
IsKept h n first bytes = (place : ℕ) → IsSome (byte_at first bytes place) → IsSome (kept h n place)

-- the answer for a complete file
abbrev pub verdict : Option BadFile → Reply
verdict None = replies.Activated
verdict (Some why) = replies.Broken why

-- a piece with a new byte: the number of places still missing; or, once the file is complete, whether it is good
abbrev pub Stores : History → Name → ℕ → List ℕ → Answer → Type 0
Stores h n first bytes answer = OrRefused answer ((size : ℕ) × (size_of h n ≡ Some size) ×
    Case (0 < missing_below (kept_with h n first bytes) size)
    (answer ≡ Ok (replies.Stored (missing_below (kept_with h n first bytes) size)))
    ((text : List ℕ) × (length text ≡ size) × ((place : ℕ) → place < size → kept_with h n first bytes place ≡ slice_get text place) × (answer ≡ Ok (verdict (fault_of text)))))

-- the limits of a feed: the most bytes of a file, and the most releases that it holds
pub record Limits : Type 0 where
  pub file : ℕ
  pub held : ℕ

-- the limits of a feed of this version that holds at most this many releases
abbrev pub limits_of : ℕ → Limits
limits_of most = record { file = max_file; held = most }

-- the answer is right after this history, within these limits: the first case that holds decides
abbrev pub IsRightWithin : Limits → History → Event → Answer → Type 0
IsRightWithin limits h (Offered n size) answer =
    Case (limits.file < size) (answer ≡ Err refusals.TooLarge)
    (Case (IsPassed h n) (answer ≡ Ok replies.Older)
    (Case (IsHeld h n) (Case (size_of h n ≡ Some size) (answer ≡ Ok replies.Known) (answer ≡ Err refusals.WrongSize))
    (Case (HoldsNumber h limits.held) (answer ≡ Err refusals.Full)
    (Case (size ≡ 0) (Commits answer (replies.Broken NoHeader)) (Commits answer replies.Noted)))))
IsRightWithin limits h (Piece n first total bytes) answer =
    Case ((length bytes ≡ 0) ⊎ (max_piece < length bytes)) (answer ≡ Err refusals.BadPiece)
    (Case (IsPassed h n) (answer ≡ Ok replies.Older)
    (Case (¬ (IsHeld h n)) (answer ≡ Err refusals.Unknown)
    (Case (IsSomeAnd total (λ t. size_of h n ≢ Some t)) (answer ≡ Err refusals.WrongSize)
    (Case (IsSomeAnd (size_of h n) (λ size. size < first + length bytes)) (answer ≡ Err refusals.Outside)
    (Case (Differs h n first bytes) (answer ≡ Err refusals.Conflict)
    (Case (IsKept h n first bytes) (answer ≡ Ok replies.Repeated)
    (Stores h n first bytes answer)))))))
IsRightWithin limits h (Lost n) answer = answer ≡ Ok replies.Nothing

-- the answer is right after this history, for a feed that holds at most this many releases
abbrev pub IsRightWith : ℕ → History → Event → Answer → Type 0
IsRightWith most h event answer = IsRightWithin (limits_of most) h event answer

-- the same for a feed that holds at most 256 releases
abbrev pub IsRight : History → Event → Answer → Type 0
IsRight h event answer = IsRightWith max_held h event answer

-- each answer is right after the events and answers before it
abbrev pub IsLegalWithin : Limits → History → Type 0
IsLegalWithin limits [] = Unit {0}
IsLegalWithin limits ((event, answer) ∷ h) = IsRightWithin limits h event answer × IsLegalWithin limits h

-- the same for a feed that holds at most this many releases
abbrev pub IsLegalWith : ℕ → History → Type 0
IsLegalWith most h = IsLegalWithin (limits_of most) h

-- the same for a feed that holds at most 256 releases
abbrev pub IsLegal : History → Type 0
IsLegal h = IsLegalWith max_held h

-- the history continued by these events and answers, in order
abbrev pub history_after : History → List Event → List Answer → History
history_after h (event ∷ events) (answer ∷ answers) = history_after ((event, answer) ∷ h) events answers
history_after h _ _ = h
