use Rattle.std.proofs.Common.{◌<◌, List, ℕ, length, take}
use Rattle.csv.specs.Records.{fields_of}
use Rattle.feed_kbart.specs.HeaderLabels.{AreHeaderFields}
use Rattle.feed_kbart.specs.Joined.{joined}
use Rattle.feed_kbart.proofs.header_fields.HeaderFields.add.Given as goal

-- the fields of the piece before the place were added
abbrev pub invariant-loop-place : goal.invariant-loop-place
invariant-loop-place l =
    (fields : List (List ℕ)) → 0 < length (fields_of l.piece) → AreHeaderFields fields l.fn.self → AreHeaderFields (joined fields (take l.place (fields_of l.piece))) l.self
