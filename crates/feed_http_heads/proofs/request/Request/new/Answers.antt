use Rattle.std.proofs.Common.{arith}
use Rattle.feed_http_heads.proofs.HeadsFound.{front_is}
use Rattle.feed_http_heads.proofs.request.Request.new.Goals as goal

pub returns-clause-within : goal.returns-clause-within
returns-clause-within c = rw (front_is 8192 c.min.result c.args.bytes.now (omega arith)) c.requires

pub returns-clause-head : goal.returns-clause-head
returns-clause-head c head at = rw (front_is 8192 c.min.result c.args.bytes.now (omega arith)) at
