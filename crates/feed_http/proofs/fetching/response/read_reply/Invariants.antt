use Rattle.std.proofs.Common.{◌≡◌, ◌≤◌, ◌++◌, ℕ, List, length, take}
use Rattle.std.specs.Io.KnownBytes.{Consumes}
use Rattle.feed_http.specs.ArrivingResponses.{HasPassedResponse}
use Rattle.feed_http.proofs.fetching.response.read_reply.Given as goal

abbrev pub invariant-reads : goal.invariant-reads
invariant-reads g l = (l.filled ≤ length l.buffer) × (length l.buffer ≡ 8192) × (l.machine.method ≡ l.fn.method)
    × ((passed : List ℕ) × HasPassedResponse l.machine passed l.body.items
    × Consumes (g.R.Read.remaining l.fn.reader) (g.R.Read.remaining l.reader) (passed ++ take l.filled l.buffer))
