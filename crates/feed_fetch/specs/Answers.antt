-- How a fetch reacts to a feed's answers.
use Rattle.feed_kbart.specs.declared.fault.BadFile.{BadFile}
use Rattle.feed_names.specs.ReleaseName.{Name}
use Rattle.std.specs.Prelude.{Bool, true, false, ◌||◌, IsTrue, ◌∷◌, Option, Some, Result, Ok, Err, ⊤, ◌≡◌, ℕ}
use Rattle.feed_dial.specs.declared.DialFault.{DialFault}
use Rattle.feed_http_heads.specs.declared.http_fault.HttpFault.TheVariants as http
use Rattle.feed_model.specs.declared.reply.Reply.{Reply}
use Rattle.feed_model.specs.declared.reply.Reply.TheVariants as replies
use Rattle.feed_model.specs.declared.reply.Refusal.TheVariants as refusals
use Rattle.feed_model.specs.History.{Event, Lost, Answer, History, IsPassed}
use Rattle.feed_model.specs.Reply.{IsRightWith}
use Rattle.feed_model.specs.Content.{Recorded, IsContent}
use Rattle.feed_fetch.specs.declared.stop.RequestFault.TheVariants.{Dial, Http}
use Rattle.feed_fetch.specs.declared.stop.Stop.{Stop}
use Rattle.feed_fetch.specs.declared.stop.Stop.TheVariants as stops

-- whether a fetch continues after this answer, or why it stops
abbrev pub response_or_stop : Answer → Result Reply Stop
response_or_stop (Ok replies.Older) = Err stops.Older
response_or_stop (Ok (replies.Broken why)) = Err stops.Broken
response_or_stop (Ok reply) = Ok reply
response_or_stop (Err refusal) = Err (stops.Refused refusal)

-- the reply reports new bytes
abbrev pub has_new_bytes : Reply → Bool
has_new_bytes (replies.Stored missing) = true
has_new_bytes replies.Activated = true
has_new_bytes _ = false

-- whether a piece with this answer had new bytes
abbrev pub piece_result : Result Reply Stop → Result Bool Stop
piece_result (Ok reply) = Ok (has_new_bytes reply)
piece_result (Err stop) = Err stop

-- the news of a piece behind those of the pieces before it; the first stop stays
abbrev pub add_news : Result Bool Stop → Result Reply Stop → Result Bool Stop
add_news (Err stop) reply = Err stop
add_news (Ok was) (Err stop) = Err stop
add_news (Ok was) (Ok reply) = Ok (was || has_new_bytes reply)

-- the first stop of two parts
abbrev pub first_stop : Result (Unit {0}) Stop → Result (Unit {0}) Stop → Result (Unit {0}) Stop
first_stop (Err stop) second = Err stop
first_stop (Ok done) second = second

-- whether the event was accepted
abbrev pub offer_result : Result Reply Stop → Result (Unit {0}) Stop
offer_result (Ok reply) = Ok tt
offer_result (Err stop) = Err stop

-- a round without new bytes stops the fetch
abbrev pub round_result : Result Bool Stop → Result (Unit {0}) Stop
round_result (Ok true) = Ok tt
round_result (Ok false) = Err stops.NoProgress
round_result (Err stop) = Err stop

-- for every history that a feed with the records c may have, the event gets a right answer, which meets the condition,
-- and one with c' may have the history with both added
abbrev pub HasRightAnswer : (Answer → Type 0) → Recorded → Event → Recorded → Type 0
HasRightAnswer ComesOut c event c' =
    (h : History) → IsContent c h → (answer : Answer) × IsRightWith c.most h event answer × ComesOut answer × IsContent c' ((event, answer) ∷ h)

-- this was the feed's last event, with this answer
abbrev pub IsLastEvent : Event → Answer → History → Type 0
IsLastEvent e a k = (before : History) × (k ≡ (e, a) ∷ before)

-- the feed after a fetch that stops for this reason: a later release is active, or the reason is the feed's last
-- answer. After a failed request its last event is the loss
abbrev pub IsStoppedAt : Name → Stop → History → Type 0
IsStoppedAt n stops.Older k = IsPassed k n
IsStoppedAt n stops.Broken k = (e : Event) × (why : BadFile) × IsLastEvent e (Ok (replies.Broken why)) k
IsStoppedAt n (stops.Refused refusal) k = (e : Event) × IsLastEvent e (Err refusal) k
IsStoppedAt n (stops.Request (Http fault)) k = IsLastEvent (Lost n) (Ok replies.Nothing) k
IsStoppedAt n _ k = ⊤

-- 0 if a later release is reported; 3 if memory ran out, or a device, connection, reader, writer or print failed;
-- otherwise 1, because of the peer or the file
abbrev pub status_of : Stop → ℕ
status_of stops.Older = 0
status_of (stops.Refused refusals.Memory) = 3
status_of (stops.Refused refusals.Device) = 3
status_of (stops.Request (Dial fault)) = 3
status_of (stops.Request (Http http.Read)) = 3
status_of (stops.Request (Http http.Write)) = 3
status_of (stops.Request (Http http.Short)) = 3
status_of (stops.Request (Http http.Memory)) = 3
status_of stops.Print = 3
status_of _ = 1

-- a stop for a failed print or connection has its cause: a print did fail, or the last connection was refused so
abbrev pub HasCause : Bool → Option DialFault → Stop → Type 0
HasCause unprinted refused stops.Print = IsTrue unprinted
HasCause unprinted refused (stops.Request (Dial fault)) = refused ≡ Some fault
HasCause unprinted refused _ = ⊤

-- memory ran out, or a device, connection, reader or writer failed
abbrev pub IsExcused : Stop → Type 0
IsExcused (stops.Refused refusals.Memory) = ⊤
IsExcused (stops.Refused refusals.Device) = ⊤
IsExcused (stops.Request (Dial fault)) = ⊤
IsExcused (stops.Request (Http http.Read)) = ⊤
IsExcused (stops.Request (Http http.Write)) = ⊤
IsExcused (stops.Request (Http http.Memory)) = ⊤
IsExcused stops.Print = ⊤
IsExcused _ = ⊥
