use Rattle.std.proofs.Common.{Some}
use Rattle.feed_http.specs.declared.fetching.got.Got.TheVariants.{Whole}
use Rattle.feed_releases.specs.Feeds.{recorded}
use Rattle.feed_fetch.proofs.Extensions.{taken_piece}
use Rattle.feed_fetch.proofs.machine.Fetch.take_part.Goals as goal

pub returns-clause-extends : goal.returns-clause-extends
returns-clause-extends g c file of =
    taken_piece (recorded c.args.feed.now) (recorded c.handle_piece-taken.new.feed) c.args.name.now (Whole file) c.args.part.now.first
    (Some c.args.part.now.length) c.args.part.now.bytes.now c.handle_piece-taken.result of c.handle_piece-taken.ensures.right
