use Rattle.std.proofs.Common.{◌<◌, ◌+◌, length, refl, arith}
use Rattle.feed_model.specs.Content.{record_of}
use Rattle.feed_model.specs.Parts.{Reaches}
use Rattle.feed_model.proofs.Pieces.{piece_older, piece_unknown, piece_wrong_size, piece_outside, piece_conflict, piece_repeated}
use Rattle.feed_releases.specs.declared.release.Overlap.TheVariants.{New}
use Rattle.feed_releases.specs.ReleaseValue.{content_of, IsOverlapOf}
use Rattle.feed_releases.proofs.Answering.{idle, small, sized, other_size, one_record, reaches}
use Rattle.feed_releases.proofs.Finding.{later_at, none_later}
use Rattle.feed_releases.proofs.Growth.{found_here}
use Rattle.feed_releases.proofs.feed.Feed.piece.Goals as goal
use Rattle.feed_releases.proofs.feed.Feed.piece.Goals.{then-first-size-via-then-first-size, then-first-size-via-else-first-size+then-bytes-size}

pub returns-then-is_passed : goal.returns-then-is_passed
returns-then-is_passed g c = idle c.args.self.now c.args.self.now _ _ refl refl refl (λ e. cc) (λ e. cc) (λ h is. (
    let rs = c.args.self.now.releases.items in
    let later = rw c.deref.ensures.value at (c.if-is_passed.ensures.later refl) in
    piece_older (content_of rs) c.args.name.now c.args.first c.args.total c.args.bytes.now (small c.args.bytes.now c.if-is_empty.ensures c.if-bytes-gt-PIECE_LIMIT.false)
    (later_at rs c.args.name.now later.0 is.distinct later.1 later.2) h is))

pub returns-in_default : goal.returns-in_default
returns-in_default g c =
    let rs = c.args.self.now.releases.items in
    let free = none_later rs c.args.name.now (rw c.deref.ensures.value at (c.if-is_passed.ensures.none refl)) in
    let none = rw c.deref-2.ensures.value at c.in_default.ensures.none in
    idle c.args.self.now c.args.self.now _ _ refl refl refl (λ e. cc) (λ e. cc) (piece_unknown (content_of rs) c.args.name.now c.args.first c.args.total c.args.bytes.now
    (small c.args.bytes.now c.if-is_empty.ensures c.if-bytes-gt-PIECE_LIMIT.false) free none)

pub returns-then-unwrap_or-size : goal.returns-then-unwrap_or-size
returns-then-unwrap_or-size g c =
    let rs = c.args.self.now.releases.items in
    let free = none_later rs c.args.name.now (rw c.deref.ensures.value at (c.if-is_passed.ensures.none refl)) in
    let r = c.index-release.result.now in
    let found = found_here rs c.args.name.now c.in-Some.at r (rw c.deref-2.ensures.value at c.in-Some.ensures.found) c.index-release.ensures in
    let other = rw c.size-size.ensures.value at (other_size c.args.total c.size-size.result (rw c.unwrap_or.ensures at c.if-unwrap_or-size.true)) in
    idle c.args.self.now c.args.self.now _ _ refl refl refl (λ e. cc) (λ e. cc) (piece_wrong_size (content_of rs) c.args.name.now c.args.first c.args.total c.args.bytes.now r.kept
    (small c.args.bytes.now c.if-is_empty.ensures c.if-bytes-gt-PIECE_LIMIT.false) free found other)

pub returns-then-first-size : goal.returns-then-first-size
returns-then-first-size g c =
    let rs = c.args.self.now.releases.items in
    let free = none_later rs c.args.name.now (rw c.deref.ensures.value at (c.if-is_passed.ensures.none refl)) in
    let r = c.index-release.result.now in
    let found = found_here rs c.args.name.now c.in-Some.at r (rw c.deref-2.ensures.value at c.in-Some.ensures.found) c.index-release.ensures in
    let same = rw c.size-size.ensures.value at (sized c.args.total c.size-size.result (rw c.unwrap_or.ensures at c.if-unwrap_or-size.false)) in
    let past : c.size-size.result < c.args.first + length c.args.bytes.now = elim c.then-first-size.branch [
      | then-first-size-via-then-first-size w ↦ omega (arith, w.if-first-size.true)
      | then-first-size-via-else-first-size+then-bytes-size w ↦ omega (arith, w.if-first-size.false, w.if-bytes-size.true)
    ] in
    idle c.args.self.now c.args.self.now _ _ refl refl refl (λ e. cc) (λ e. cc) (piece_outside (content_of rs) c.args.name.now c.args.first c.args.total c.args.bytes.now r.kept
    (small c.args.bytes.now c.if-is_empty.ensures c.if-bytes-gt-PIECE_LIMIT.false) free found same
    (omega (arith, past, c.size-size.ensures.value)))

pub take_in-requires-clause-reaches : goal.take_in-requires-clause-reaches
take_in-requires-clause-reaches g c x found_x =
    let r = c.index-release.result.now in
    let free = rw c.deref.ensures.value at (c.if-is_passed.ensures.none refl) in
    let reach = reaches c.args.self.now.releases.items c.args.name.now c.in-Some.at r c.args.first c.args.total c.args.bytes.now c.size-size.result free
    (rw c.deref-2.ensures.value at c.in-Some.ensures.found) c.index-release.ensures (small c.args.bytes.now c.if-is_empty.ensures c.if-bytes-gt-PIECE_LIMIT.false)
    (rw c.unwrap_or.ensures at c.if-unwrap_or-size.false) c.size-size.ensures.value (omega (arith, c.if-first-size.false, c.if-bytes-size.false)) in
    one_record (record_of (content_of c.args.self.now.releases.items) c.args.name.now) r.kept x
    (λ k. Reaches (content_of c.args.self.now.releases.items) c.args.name.now c.args.first c.args.total c.args.bytes.now k) reach.found found_x reach

pub take_in-requires-clause-new : goal.take_in-requires-clause-new
take_in-requires-clause-new g c x found_x =
    let rs = c.args.self.now.releases.items in
    let r = c.index-release.result.now in
    let found = found_here rs c.args.name.now c.in-Some.at r (rw c.deref-2.ensures.value at c.in-Some.ensures.found) c.index-release.ensures in
    one_record (record_of (content_of rs) c.args.name.now) r.kept x (λ k. IsOverlapOf k c.args.first c.args.bytes.now New) found found_x c.in-New.ensures

pub returns-in-Conflict : goal.returns-in-Conflict
returns-in-Conflict g c =
    let r = c.index-release.result.now in
    let free = rw c.deref.ensures.value at (c.if-is_passed.ensures.none refl) in
    let reach = reaches c.args.self.now.releases.items c.args.name.now c.in-Some.at r c.args.first c.args.total c.args.bytes.now c.size-size.result free
    (rw c.deref-2.ensures.value at c.in-Some.ensures.found) c.index-release.ensures (small c.args.bytes.now c.if-is_empty.ensures c.if-bytes-gt-PIECE_LIMIT.false)
    (rw c.unwrap_or.ensures at c.if-unwrap_or-size.false) c.size-size.ensures.value (omega (arith, c.if-first-size.false, c.if-bytes-size.false)) in
    idle c.args.self.now c.args.self.now _ _ refl refl refl (λ e. cc) (λ e. cc)
    (piece_conflict (content_of c.args.self.now.releases.items) c.args.name.now c.args.first c.args.total c.args.bytes.now r.kept reach c.in-Conflict.ensures)

pub returns-in-Kept : goal.returns-in-Kept
returns-in-Kept g c =
    let r = c.index-release.result.now in
    let free = rw c.deref.ensures.value at (c.if-is_passed.ensures.none refl) in
    let reach = reaches c.args.self.now.releases.items c.args.name.now c.in-Some.at r c.args.first c.args.total c.args.bytes.now c.size-size.result free
    (rw c.deref-2.ensures.value at c.in-Some.ensures.found) c.index-release.ensures (small c.args.bytes.now c.if-is_empty.ensures c.if-bytes-gt-PIECE_LIMIT.false)
    (rw c.unwrap_or.ensures at c.if-unwrap_or-size.false) c.size-size.ensures.value (omega (arith, c.if-first-size.false, c.if-bytes-size.false)) in
    idle c.args.self.now c.args.self.now _ _ refl refl refl (λ e. cc) (λ e. cc) (piece_repeated
    (content_of c.args.self.now.releases.items) c.args.name.now c.args.first c.args.total c.args.bytes.now r.kept reach c.in-Kept.ensures.0 c.in-Kept.ensures.1)
