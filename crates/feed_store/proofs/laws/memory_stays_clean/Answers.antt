use Rattle.std.proofs.Common.{refl}
use Rattle.sqlite.proofs.Callers.{memory_is_clean}
use Rattle.feed_store.proofs.laws.memory_stays_clean.Goals as goal

pub returns : goal.returns
returns c held failures loads alone is = (is, (memory_is_clean held, refl))
