-- The faults that report the errors of SQLite.
use Rattle.std.specs.Prelude.{Bool, true, false, if◌then◌else◌}
use Rattle.feed_model.specs.declared.keep_fault.KeepFault.{KeepFault}
use Rattle.feed_model.specs.declared.keep_fault.KeepFault.TheVariants as keep
use Rattle.sqlite.specs.declared.error.Error.{Error}
use Rattle.sqlite.specs.declared.error.Error.TheVariants.{SqliteFailure}
use Rattle.sqlite.specs.declared.error.ErrorCode.TheVariants.{OutOfMemory, NotADatabase, DatabaseCorrupt, CannotOpen}
use Rattle.feed_store.specs.declared.fault.StoreFault.{StoreFault}
use Rattle.feed_store.specs.declared.fault.StoreFault.TheVariants.{Memory, Device, NotOurs}
use Rattle.feed_store.specs.declared.fault.StoreFileFault.{StoreFileFault}
use Rattle.feed_store.specs.declared.fault.StoreFileFault.TheVariants as cause

-- SQLite ran out of memory
abbrev pub is_memory : Error → Bool
is_memory (SqliteFailure OutOfMemory) = true
is_memory _ = false

-- the fault for an error of an open database: Device for each error but running out of memory
abbrev pub fault_for : Error → StoreFault
fault_for e = if is_memory e then Memory else Device

-- the fault of a file for that of its database: its tables are not a keeper's
abbrev pub with_cause : StoreFault → StoreFileFault
with_cause Memory = cause.Memory
with_cause Device = cause.Device
with_cause NotOurs = cause.Tables

-- the fault of a file without its cause: NotOurs for each but running out of memory and a device
abbrev pub without_cause : StoreFileFault → StoreFault
without_cause cause.Memory = Memory
without_cause cause.Device = Device
without_cause _ = NotOurs

-- the fault for an error of opening a file: SQLite finds damaged pages, or tables or rows that it does not accept
abbrev pub open_fault_for : Error → StoreFileFault
open_fault_for (SqliteFailure DatabaseCorrupt) = cause.Damaged
open_fault_for (SqliteFailure NotADatabase) = cause.Unsound
open_fault_for (SqliteFailure CannotOpen) = cause.Unsound
open_fault_for e = with_cause (fault_for e)

-- the fault of a keeper for an error of its database: Device for each error but running out of memory
abbrev pub keep_fault_for : Error → KeepFault
keep_fault_for e = if is_memory e then keep.Memory else keep.Device
