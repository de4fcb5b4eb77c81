-- The condition under which a connection shows the true content of its database.
use Rattle.std.specs.Prelude.{IsTrue}
use Rattle.sqlite.specs.State.{State, HasCleanDisk}

-- the disk has returned what was written, and the connection is open
abbrev pub IsLive : State → Type 0
IsLive s = HasCleanDisk s × IsTrue s.is_open
