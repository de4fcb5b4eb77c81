-- The status of a release's file, and what follows from it.
use Rattle.std.specs.Prelude.{◌≡◌, ◌<◌, ℕ, List, Option, Some, None, Ok, Err}
use Rattle.feed_names.specs.ReleaseName.{Name}
use Rattle.feed_kbart.specs.HoldingsValue.{HoldingsValue}
use Rattle.feed_kbart.specs.declared.fault.BadFile.{BadFile}
use Rattle.feed_kbart.specs.declared.fault.KbartFault.TheVariants as faults
use Rattle.feed_model.specs.declared.state.State.{State}
use Rattle.feed_model.specs.declared.state.State.TheVariants as states
use Rattle.feed_model.specs.declared.reply.Reply.{Reply}
use Rattle.feed_model.specs.declared.reply.Reply.TheVariants as replies
use Rattle.feed_model.specs.Content.{Part, Record}
use Rattle.feed_model.specs.Change.{Change, Pieces, Break, Activate, grown, broken_with}
use Rattle.feed_releases.specs.Judged.{IsJudged}
use Rattle.feed_releases.specs.declared.standing.Standing.{Standing}
use Rattle.feed_releases.specs.declared.standing.Standing.TheVariants.{Partial, Bad, Good}

-- the state of a release whose file has this status
abbrev pub state_of : Standing → State
state_of Partial = states.Staged
state_of (Bad why) = states.Broken
state_of (Good holdings) = states.Active

-- why it is broken
abbrev pub reason_of : Standing → Option BadFile
reason_of Partial = None
reason_of (Bad why) = Some why
reason_of (Good holdings) = None

-- the rows of its file
abbrev pub rows_of : Standing → Option HoldingsValue
rows_of Partial = None
rows_of (Bad why) = None
rows_of (Good holdings) = Some holdings

-- the answer to the piece that leads to this status
abbrev pub reply_of : ℕ → Standing → Reply
reply_of missing Partial = replies.Stored missing
reply_of missing (Bad why) = replies.Broken why
reply_of missing (Good holdings) = replies.Activated

-- the change that stores the parts that lead to this status
abbrev pub change_to : Standing → Name → List Part → Change
change_to Partial n ps = Pieces n ps
change_to (Bad why) n ps = Break n ps why
change_to (Good holdings) n ps = Activate n ps

-- the release's record after this change
abbrev pub record_after : List Part → Standing → Record → Record
record_after ps Partial r = grown ps states.Staged r
record_after ps (Bad why) r = broken_with ps why r
record_after ps (Good holdings) r = grown ps states.Active r

-- the parts have this status: places are missing; or none is, and their text is bad for this reason, or good with these
-- rows
abbrev pub IsStandingOf : ℕ → List Part → ℕ → Standing → Type 0
IsStandingOf size parts missing Partial = 0 < missing
IsStandingOf size parts missing (Bad why) = (missing ≡ 0) × IsJudged size parts (Err (faults.Bad why))
IsStandingOf size parts missing (Good holdings) = (missing ≡ 0) × IsJudged size parts (Ok holdings)
