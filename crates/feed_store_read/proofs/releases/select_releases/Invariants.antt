use Rattle.feed_store_read.specs.Texts.{releases_text}
use Rattle.feed_store_read.proofs.Streams.{IsUnderWay}
use Rattle.feed_store_read.specs.Releases.{ShowReleases}
use Rattle.feed_store_read.proofs.releases.select_releases.Given as goal

abbrev pub invariant-rows : goal.invariant-rows
invariant-rows g l = IsUnderWay g.S.Store releases_text (λ rows. ShowReleases rows l.found) l.fn.conn l.initial.rows l.rows
