-- The failures of a reader.
use Rattle.std.specs.Prelude.{◌≡◌, Bool}
use Rattle.csv.specs.declared.error.ErrorKind.{ErrorKind}
use Rattle.csv.specs.declared.error.ErrorKind.TheVariants as kind
use Rattle.feed_text.specs.declared.fault.TextFault.{TextFault}
use Rattle.feed_text.specs.declared.fault.TextFault.TheVariants.{Memory, Read}
use Rattle.feed_text.specs.declared.noted_reader.NotedReader.{NotedReader}

-- the reader underneath has failed
abbrev pub has_failed : {R : Type 0} → NotedReader R → Bool
has_failed noted = noted.failed

-- the fault of an error that stops a reader of records: `Read` if its source failed, `Memory` if memory ran out
abbrev pub IsFaultOf : ErrorKind → TextFault → Type 0
IsFaultOf (kind.Io error) fault = fault ≡ Read
IsFaultOf kind.OutOfMemory fault = fault ≡ Memory
IsFaultOf (kind.UnequalLengths place expected length) fault = ⊥
IsFaultOf (kind.Utf8 place error) fault = ⊥
IsFaultOf (kind.Serialize text) fault = ⊥
IsFaultOf (kind.Deserialize place error) fault = ⊥
