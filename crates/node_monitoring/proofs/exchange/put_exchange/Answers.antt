use Rattle.std.proofs.Common.{refl, inl, []}
use Rattle.std.proofs.lemmas.Result.{on_ok_weaker}
use Rattle.node_monitoring.proofs.exchange.put_exchange.Goals as goal

pub returns-in-None : goal.returns-in-None
returns-in-None c = on_ok_weaker c.put_entry-in-None.result (λ written. inl (c.in-None.ensures, written [] refl)) c.put_entry-in-None.ensures
