use Rattle.node_service.proofs.Fetches.{asked_or_not, asks_for_none_without}
use Rattle.node_service.proofs.wanted.asks_for_fetch.Goals as goal

pub returns-in-Some : goal.returns-in-Some
returns-in-Some c = asked_or_not c.args.received.now.bytes.now c.in-Some.ensures.head c.is_fetch.result c.in-Some.ensures.begins
    (c.is_fetch.ensures c.in-Some.ensures.head c.in-Some.ensures.has)

pub returns-in-None : goal.returns-in-None
returns-in-None c = asks_for_none_without c.args.received.now.bytes.now c.in-None.ensures
