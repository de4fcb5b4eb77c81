-- The validation of a complete file. Only two proofs unfold it: that an empty file is bad, and that the reader reports
-- this.
use Rattle.std.specs.Prelude.{ℕ, List, Option}
use Rattle.feed_kbart.specs.Files.{bad_of}
use Rattle.feed_kbart.specs.declared.fault.BadFile.{BadFile}

-- why a file is bad, or nothing if it is good: the first that holds of not UTF-8, two byte-order marks, no header, a
-- label missing, a label twice
unfoldable pub fault_of : List ℕ → Option BadFile
fault_of text = bad_of text
