use Rattle.feed_http.proofs.ChunkPassing.{line_within}
use Rattle.feed_http.proofs.fetching.chunk_machine.ChunkMachine.step_line.Goals as goal

pub returns-then-size-eq0-clause-within : goal.returns-then-size-eq0-clause-within
returns-then-size-eq0-clause-within c = line_within c.args.bytes.now c.in-Complete.count c.in-Complete.size c.in-Complete.ensures

pub returns-else-size-saturating_sub-clause-within : goal.returns-else-size-saturating_sub-clause-within
returns-else-size-saturating_sub-clause-within c = line_within c.args.bytes.now c.in-Complete.count c.in-Complete.size c.in-Complete.ensures
