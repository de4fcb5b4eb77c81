-- The printed form of a line.
use Rattle.std.specs.Prelude.{◌++◌, ℕ, List, codes}
use Rattle.feed_names.specs.ReleaseName.{text_of}
use Rattle.feed_answer.specs.Faults.{query_fault_text}
use Rattle.feed_model.specs.Texts.{reply_text, refusal_text, keep_fault_text}
use Rattle.feed_world.specs.declared.line.Why.{Why}
use Rattle.feed_world.specs.declared.line.Why.TheVariants as whys
use Rattle.feed_world.specs.World.{Line, Published, Replied, Restarted, Stopped, IsDown, Active, Inactive, Text, Refused}

-- the printed name of a reason why an event is refused
abbrev pub why_text : Why → List ℕ
why_text whys.Republished = codes "Republished"
why_text whys.NoNode = codes "NoNode"
why_text whys.Unpublished = codes "Unpublished"
why_text whys.NoSlice = codes "NoSlice"
why_text whys.Down = codes "Down"
why_text (whys.Feed refusal) = refusal_text refusal
why_text (whys.Query fault) = query_fault_text fault
why_text whys.NoRelease = codes "NoRelease"
why_text whys.Memory = codes "Memory"

-- the line, with the line feed that ends it; the text of an answer has its own
abbrev pub line_text : Line → List ℕ
line_text Published = codes "published\n"
line_text (Replied reply) = reply_text reply ++ codes "\n"
line_text Restarted = codes "restarted\n"
line_text Stopped = codes "stopped\n"
line_text (IsDown cause) = codes "down " ++ keep_fault_text cause ++ codes "\n"
line_text (Active name) = codes "active " ++ text_of name ++ codes "\n"
line_text Inactive = codes "none\n"
line_text (Text text) = text
line_text (Refused why) = codes "refused " ++ why_text why ++ codes "\n"
