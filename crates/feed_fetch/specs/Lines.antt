-- The lines of a fetch.
use Rattle.std.specs.Prelude.{◌≡◌, ◌⊎◌, ◌++◌, ◌∷◌, [], ℕ, List, Option, Result, Ok, Err, codes}
use Rattle.std.specs.Fmt.{decimal}
use Rattle.std.specs.Io.KnownBytes.{Appends}
use Rattle.feed_model.specs.History.{Answer}
use Rattle.feed_model.specs.Texts.{refusal_text, reply_text}
use Rattle.feed_model.specs.declared.reply.Reply.{Reply}
use Rattle.feed_fetch.specs.Answers.{response_or_stop}
use Rattle.feed_fetch.specs.declared.stop.Stop.{Stop}
use Rattle.feed_fetch.specs.declared.stop.Stop.TheVariants as stops
use Rattle.feed_fetch.specs.declared.events.FetchEvent.{FetchEvent}
use Rattle.feed_fetch.specs.declared.events.FetchEvent.TheVariants as events

-- a line with this text, and its end
abbrev pub line_of : List ℕ → List ℕ
line_of text = text ++ 10 ∷ []

-- a line with this text was added to the lines, if they are known
abbrev pub HasLine : Option (List ℕ) → Option (List ℕ) → List ℕ → Type 0
HasLine old new text = Appends old new (line_of text)

-- the text of an event
abbrev pub event_text : FetchEvent → List ℕ
event_text (events.Size size) = codes "size " ++ decimal size
event_text (events.Accepted reply) = reply_text reply
event_text (events.Refused refusal) = codes "refused " ++ refusal_text refusal
event_text events.Missing = codes "missing"
event_text events.Unsatisfied = codes "unsatisfied"

-- the text of the feed's answer to an event
abbrev pub answer_text : Answer → List ℕ
answer_text (Ok reply) = event_text (events.Accepted reply)
answer_text (Err refusal) = event_text (events.Refused refusal)

-- the answer was printed, and the fetch continues after it or stops; or the print failed
abbrev pub IsPrintedAs : Option (List ℕ) → Option (List ℕ) → Answer → Result Reply Stop → Type 0
IsPrintedAs old new answer result = ((result ≡ response_or_stop answer) × HasLine old new (answer_text answer)) ⊎ (result ≡ Err stops.Print)
