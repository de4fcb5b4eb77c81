-- The events that a fetch owes to the feed for a response.
use Rattle.std.specs.Prelude.{◌≡◌, ◌+◌, ◌⊎◌, ⊤, ℕ, Bool, true, false, List, [], ◌∷◌, ◌++◌, length, take, drop, Option, Some, None, Result, Ok, Err}
use Rattle.std.specs.Prelude.{if◌then◌else◌, nat_lt}
use Rattle.feed_names.specs.ReleaseName.{Name}
use Rattle.feed_limits.specs.Limits.{piece_limit}
use Rattle.feed_http.specs.declared.fetching.got.Got.{Got}
use Rattle.feed_http.specs.declared.fetching.got.Got.TheVariants as got
use Rattle.feed_model.specs.Content.{Recorded, IsContent}
use Rattle.feed_model.specs.History.{Event, Offered, Piece, Lost, Answer, History}
use Rattle.feed_model.specs.declared.reply.Reply.TheVariants as replies
use Rattle.feed_fetch.specs.declared.machine.Phase.{Phase}
use Rattle.feed_fetch.specs.declared.machine.Phase.TheVariants as phases
use Rattle.feed_fetch.specs.declared.stop.RequestFault.{RequestFault}
use Rattle.feed_fetch.specs.declared.stop.RequestFault.TheVariants.{Http}

-- the piece of a whole file that begins at this place: 1,048,576 bytes, or all that are left
abbrev pub piece_at : Name → List ℕ → ℕ → Option Event
piece_at n all first = if nat_lt first (length all) then Some (Piece n first (Some (length all)) (take piece_limit (drop first all))) else None

-- the place behind the newest piece
abbrev pub end_of : History → ℕ
end_of ((Piece n first total bytes, answer) ∷ earlier) = first + length bytes
end_of _ = 0

-- the next event that a response owes after these steps, the newest first: the offer of the length that it states; the
-- piece that it gives; the pieces of a whole file, in order; or the loss of a request that failed
abbrev pub owed_event : Name → Phase → Result Got RequestFault → History → Option Event
owed_event n phases.New (Ok (got.Size size)) [] = Some (Offered n size)
owed_event n phases.New (Err (Http fault)) [] = Some (Lost n)
owed_event n phases.Offered (Ok (got.Piece first total bytes)) [] = Some (Piece n first total bytes)
owed_event n phases.Offered (Ok (got.Whole all)) steps = piece_at n all (end_of steps)
owed_event n phases.Offered (Err (Http fault)) [] = Some (Lost n)
owed_event n phase reply steps = None

-- the next piece of a whole file follows this answer; after any other, such as a refusal or an activation, none does
abbrev pub is_followed : Answer → Bool
is_followed (Ok (replies.Stored missing)) = true
is_followed (Ok replies.Repeated) = true
is_followed _ = false

-- a step may follow these
abbrev pub may_follow : History → Bool
may_follow [] = true
may_follow ((event, answer) ∷ earlier) = is_followed answer

-- each step is the one that the response owes after those before it
abbrev pub AreSteps : Name → Phase → Result Got RequestFault → History → Type 0
AreSteps n phase reply [] = ⊤
AreSteps n phase reply ((event, answer) ∷ earlier) =
    (owed_event n phase reply earlier ≡ Some event) × (may_follow earlier ≡ true) × AreSteps n phase reply earlier

-- the steps are those that the response owes: all, or those up to the first answer that none follows
abbrev pub AreOwed : Name → Phase → Result Got RequestFault → History → Type 0
AreOwed n phase reply steps = AreSteps n phase reply steps × ((owed_event n phase reply steps ≡ None) ⊎ (may_follow steps ≡ false))

-- for every history that has the content c, c' is a content of it with exactly the steps that the response owes added,
-- and the result meets the condition
abbrev pub IsSubmitted : Name → Phase → Result Got RequestFault → (History → Type 0) → Recorded → Recorded → Type 0
IsSubmitted n phase reply Stands c c' =
    (h : History) → IsContent c h → (steps : History) × AreOwed n phase reply steps × Stands (steps ++ h) × IsContent c' (steps ++ h)
