-- The model values of events and lines, without their addresses in memory.
use Rattle.feed_world.specs.declared.event.Sent as code_sent
use Rattle.feed_world.specs.declared.event.Sent.TheVariants as sents
use Rattle.feed_world.specs.declared.event.WorldEvent as code_event
use Rattle.feed_world.specs.declared.event.WorldEvent.TheVariants as events
use Rattle.feed_world.specs.declared.line.Line as code_line
use Rattle.feed_world.specs.declared.line.Line.TheVariants as lines
use Rattle.feed_world.specs.World.{Sent, Offer, Deliver, Lose, WorldEvent, Publish, Tell, Restart, StopBefore, StopAfter, Report, Ask, Line, Published, Replied, Restarted, Stopped, IsDown}
use Rattle.feed_world.specs.World.{Active, Inactive, Text, Refused}

-- the model value of what is sent
abbrev pub shown_sent : code_sent.Sent → Sent
shown_sent (sents.Offer n) = Offer n
shown_sent (sents.Deliver n first len) = Deliver n first len

-- the model value of an event; the code has an event for each of the three kinds of Tell
abbrev pub shown_event : code_event.WorldEvent → WorldEvent
shown_event (events.Publish n bytes) = Publish n bytes.items
shown_event (events.Offer i n) = Tell i (Offer n)
shown_event (events.Deliver i n first len) = Tell i (Deliver n first len)
shown_event (events.Lose i n) = Tell i (Lose n)
shown_event (events.Restart i) = Restart i
shown_event (events.StopBefore i what) = StopBefore i (shown_sent what)
shown_event (events.StopAfter i what) = StopAfter i (shown_sent what)
shown_event (events.Report i package_name) = Report i package_name.items
shown_event (events.Ask i package_name query) = Ask i package_name.items query.items

-- the model value of a line
abbrev pub shown_line : code_line.Line → Line
shown_line lines.Published = Published
shown_line (lines.Replied reply) = Replied reply
shown_line lines.Restarted = Restarted
shown_line lines.Stopped = Stopped
shown_line (lines.Down cause) = IsDown cause
shown_line (lines.Active n) = Active n
shown_line lines.Inactive = Inactive
shown_line (lines.Text text) = Text text.items
shown_line (lines.Refused why) = Refused why
