use Rattle.feed_http.proofs.RequestLaw.{fetch_gives_slice}
use Rattle.feed_http.proofs.laws.fetch_gives_slice.Goals as goal

pub returns : goal.returns
returns c = fetch_gives_slice
