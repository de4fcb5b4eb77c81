-- The model values of events.
use Rattle.feed_model.specs.History.{Event, Offered, Piece, Lost}
use Rattle.feed_releases.specs.declared.feed.Event as code_event
use Rattle.feed_releases.specs.declared.feed.Event.TheVariants as events

-- the model value of an event
abbrev pub event_of : code_event.Event → Event
event_of (events.Offered n size) = Offered n.now size
event_of (events.Piece n first total bytes) = Piece n.now first total bytes.now
event_of (events.Lost n) = Lost n.now
