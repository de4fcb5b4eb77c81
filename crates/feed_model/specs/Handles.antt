-- The effect of an answer on a content, for every history that the content may have.
use Rattle.std.specs.Prelude.{◌≡◌, List, ◌∷◌, length, Some}
use Rattle.feed_names.specs.ReleaseName.{Name, IsEarlier}
use Rattle.feed_model.specs.declared.state.State.TheVariants.{Active}
use Rattle.feed_model.specs.History.{Event, Answer, History}
use Rattle.feed_model.specs.Reply.{IsRightWith, history_after}
use Rattle.feed_model.specs.Content.{Record, Content, Recorded, record_of, IsContent}

-- for every history that a feed with the records c may have, the answer is right. A feed with c' may have the history
-- with the event and the answer added, so it does not matter how the feed got its records
abbrev pub Handles : Recorded → Event → Answer → Recorded → Type 0
Handles c event answer c' = (h : History) → IsContent c h → IsRightWith c.most h event answer × IsContent c' ((event, answer) ∷ h)

-- an active record of the package is later: IsPassed for a content
abbrev pub HasLaterActive : Content → Name → Type 0
HasLaterActive c n = (a : Record) × (record_of c a.name ≡ Some a) × (a.state ≡ Active) × IsEarlier n a.name

-- for every history that a feed with the records c may have, one with c' may have the history continued by these events
-- and answers
pub record Runs (c : Recorded) (events : List Event) (answers : List Answer) (c' : Recorded) : Type 0 where
  pub each : length events ≡ length answers
  pub content : (h : History) → IsContent c h → IsContent c' (history_after h events answers)
