-- The printed forms of replies and refusals.
use Rattle.std.specs.Prelude.{◌++◌, ℕ, List, codes}
use Rattle.std.specs.Fmt.{decimal}
use Rattle.feed_kbart.specs.Reasons.{bad_file_text}
use Rattle.feed_model.specs.declared.keep_fault.KeepFault.{KeepFault}
use Rattle.feed_model.specs.declared.keep_fault.KeepFault.TheVariants as faults
use Rattle.feed_model.specs.declared.reply.Reply.{Reply}
use Rattle.feed_model.specs.declared.reply.Reply.TheVariants as replies
use Rattle.feed_model.specs.declared.reply.Refusal.{Refusal}
use Rattle.feed_model.specs.declared.reply.Refusal.TheVariants as refusals

abbrev pub reply_text : Reply → List ℕ
reply_text replies.Noted = codes "noted"
reply_text replies.Known = codes "known"
reply_text (replies.Stored missing) = codes "stored missing " ++ decimal missing
reply_text replies.Repeated = codes "repeated"
reply_text replies.Activated = codes "activated"
reply_text (replies.Broken why) = codes "broken " ++ bad_file_text why
reply_text replies.Older = codes "older"
reply_text replies.Nothing = codes "nothing"

abbrev pub refusal_text : Refusal → List ℕ
refusal_text refusals.TooLarge = codes "TooLarge"
refusal_text refusals.WrongSize = codes "WrongSize"
refusal_text refusals.Full = codes "Full"
refusal_text refusals.BadPiece = codes "BadPiece"
refusal_text refusals.Unknown = codes "Unknown"
refusal_text refusals.Outside = codes "Outside"
refusal_text refusals.Conflict = codes "Conflict"
refusal_text refusals.Memory = codes "Memory"
refusal_text refusals.Device = codes "Device"

abbrev pub keep_fault_text : KeepFault → List ℕ
keep_fault_text faults.Memory = codes "Memory"
keep_fault_text faults.Device = codes "Device"
keep_fault_text faults.Damaged = codes "Damaged"
