use Rattle.std.proofs.Common.{ℕ, Bool, cond, IfOk, List, ap₂, subst}
use Rattle.sqlite_disk.specs.Events.{Event, replay}
use Rattle.sqlite_wal.specs.Recovery.{Image}
use Rattle.feed_store.specs.Adopted.{IsOpenedAs}
use Rattle.feed_store.proofs.file.SqlKeep+FileStore+FileFrom+S.open_from.Goals as goal

abbrev image : List ℕ → List ℕ → Image
image log db = record { log = log; db = db }

abbrev seen : List ℕ → List ℕ → Bool → List Event → List ℕ
seen log db is_log history = (replay (cond is_log log db) history).seen

-- files that were just opened have the bytes that they are taken to begin with
pub returns-clause-opened : goal.returns-clause-opened
returns-clause-opened g c =
    let (log, db) = c.in_ok-files.ensures.fresh in
    let same = ap₂ image (ap₂ (seen g.S.Start.log g.S.Start.db) log.0 log.1) (ap₂ (seen g.S.Start.log g.S.Start.db) db.0 db.1) in
    subst (λ (i : Image). IfOk c.open_files.result (λ keep. IsOpenedAs i keep.0 keep.1.1)) same c.open_files.ensures.opened
