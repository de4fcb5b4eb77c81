-- The faults of a file whose text was not read, and of a file with too many rows.
use Rattle.std.specs.Prelude.{◌<◌, List, length}
use Rattle.feed_limits.specs.Limits.{file_limit}
use Rattle.feed_text.specs.declared.fault.TextFault.{TextFault}
use Rattle.feed_text.specs.declared.fault.TextFault.TheVariants as text
use Rattle.feed_kbart.specs.declared.fault.BadFile.TheVariants.{NotUtf8, TwoMarks}
use Rattle.feed_kbart.specs.declared.fault.KbartFault.{KbartFault}
use Rattle.feed_kbart.specs.declared.fault.KbartFault.TheVariants.{Bad, Memory, Read, TooLong}

-- a bad text makes the file bad
abbrev pub file_fault : TextFault → KbartFault
file_fault text.NotUtf8 = Bad NotUtf8
file_fault text.TwoMarks = Bad TwoMarks
file_fault text.Memory = Memory
file_fault text.Read = Read
file_fault text.TooLong = TooLong

-- there are more rows than a file can have; `Memory` says nothing about them
abbrev pub IsFullOf : {A : Type 0} → List A → KbartFault → Type 0
IsFullOf rows (Bad why) = ⊥
IsFullOf rows TooLong = file_limit < length rows
IsFullOf rows Memory = Unit {0}
IsFullOf rows Read = ⊥
