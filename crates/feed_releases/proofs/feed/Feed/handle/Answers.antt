use Rattle.std.proofs.Common.{refl}
use Rattle.feed_model.proofs.Losses.{loss}
use Rattle.feed_releases.specs.ReleaseValue.{content_of}
use Rattle.feed_releases.proofs.Answering.{idle}
use Rattle.feed_releases.proofs.feed.Feed.handle.Goals as goal

pub returns-in-Offered : goal.returns-in-Offered
returns-in-Offered g c = rw c.in-Offered.is c.offer.ensures

pub returns-in-Piece : goal.returns-in-Piece
returns-in-Piece g c = rw c.in-Piece.is c.piece.ensures

pub returns-in-Lost : goal.returns-in-Lost
returns-in-Lost g c = idle c.args.self.now c.args.self.now _ _ refl refl refl (λ e. cc) (λ e. cc) (rw c.in-Lost.is (loss (content_of c.args.self.now.releases.items) _))
