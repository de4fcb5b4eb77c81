use Rattle.feed_http.proofs.RequestLaw.{head_gives_size}
use Rattle.feed_http.proofs.laws.head_gives_size.Goals as goal

pub returns : goal.returns
returns c = head_gives_size
