use Rattle.std.proofs.Common.{get_or, refl, sym, ◌∙◌, ap, arith}
use Rattle.std.proofs.lemmas.Result.{err_from_is_err_and}
use Rattle.feed_model.proofs.Offers.{offer_older, offer_known, offer_wrong_size, offer_full, offer_refused, offer_noted, offer_noted_empty}
use Rattle.feed_releases.specs.ReleaseValue.{ReleaseValue, content_of}
use Rattle.feed_keep.proofs.Failed.{reported_as}
use Rattle.feed_releases.proofs.Answering.{idle, refused, refused_with, taken_in}
use Rattle.feed_releases.proofs.Finding.{length-content_of, found_at, later_at, none_later}
use Rattle.feed_releases.proofs.feed.Feed.offer.Goals as goal

pub returns-then-is_passed : goal.returns-then-is_passed
returns-then-is_passed g c = idle c.args.self.now c.args.self.now _ _ refl refl refl (λ e. cc) (λ e. cc) (λ h is. (
    let rs = c.args.self.now.releases.items in
    let later = rw c.deref.ensures.value at (c.if-is_passed.ensures.later refl) in
    offer_older (content_of rs) c.args.name.now c.args.size c.if-size.false (later_at rs c.args.name.now later.0 is.distinct later.1 later.2) h is))

pub returns-then-size-2 : goal.returns-then-size-2
returns-then-size-2 g c =
    let rs = c.args.self.now.releases.items in
    let free = none_later rs c.args.name.now (rw c.deref.ensures.value at (c.if-is_passed.ensures.none refl)) in
    let found = found_at rs c.args.name.now c.in-Some.at c.index.result.now (rw c.deref-2.ensures.value at c.in-Some.ensures.found) in
    idle c.args.self.now c.args.self.now _ _ refl refl refl (λ e. cc) (λ e. cc)
    (offer_known (content_of rs) c.args.name.now c.args.size (get_or rs c.in-Some.at c.index.result.now).kept c.if-size.false free found
    (ap (λ (r : ReleaseValue). r.kept.size) (sym c.index.ensures) ∙ sym c.size.ensures.value ∙ c.if-size-2.true))

pub returns-else-size-2 : goal.returns-else-size-2
returns-else-size-2 g c =
    let rs = c.args.self.now.releases.items in
    let free = none_later rs c.args.name.now (rw c.deref.ensures.value at (c.if-is_passed.ensures.none refl)) in
    let found = found_at rs c.args.name.now c.in-Some.at c.index.result.now (rw c.deref-2.ensures.value at c.in-Some.ensures.found) in
    idle c.args.self.now c.args.self.now _ _ refl refl refl (λ e. cc) (λ e. cc) (offer_wrong_size (content_of rs) c.args.name.now c.args.size
    (get_or rs c.in-Some.at c.index.result.now).kept c.if-size.false free found
    (λ e. c.if-size-2.false (c.size.ensures.value ∙ ap (λ (r : ReleaseValue). r.kept.size) c.index.ensures ∙ e)))

pub returns-then-len-self : goal.returns-then-len-self
returns-then-len-self g c =
    let rs = c.args.self.now.releases.items in
    let free = none_later rs c.args.name.now (rw c.deref.ensures.value at (c.if-is_passed.ensures.none refl)) in
    let none = rw c.deref-2.ensures.value at c.in_default.ensures.none in
    idle c.args.self.now c.args.self.now _ _ refl refl refl (λ e. cc)
    (λ _. omega (arith, c.args.self.now.few, c.len.ensures, c.args.self.now.releases.ok))
    (offer_full (content_of rs) c.args.name.now c.args.size c.if-size.false free none (omega (arith, length-content_of rs, c.args.self.now.few, c.len.ensures, c.args.self.now.releases.ok)))

pub returns-in_err-add : goal.returns-in_err-add
returns-in_err-add g c =
    let rs = c.args.self.now.releases.items in
    let free = none_later rs c.args.name.now (rw c.deref.ensures.value at (c.if-is_passed.ensures.none refl)) in
    let none = rw c.deref-2.ensures.value at c.in_default.ensures.none in
    let p = err_from_is_err_and c.from_residual.result c.from_residual.ensures.1 in
    rw (p.1, p.2) (refused_with c.args.self.now c.add.new.self _ c.in_err-add.field-0.0 c.in_err-add.ensures.same c.in_err-add.ensures.room c.in_err-add.ensures.clean
    (reported_as c.in_err-add.ensures.counted (λ e. cc) (λ e. cc)) c.in_err-add.ensures.unloaded c.in_err-add.ensures.fault
    (offer_refused (content_of rs) c.args.name.now c.args.size _ c.if-size.false free none (omega (arith, length-content_of rs, c.len.ensures))
    (refused c.in_err-add.field-0.0 c.in_err-add.ensures.fault)))

pub returns-then-size-eq0 : goal.returns-then-size-eq0
returns-then-size-eq0 g c =
    let rs = c.args.self.now.releases.items in
    let free = none_later rs c.args.name.now (rw c.deref.ensures.value at (c.if-is_passed.ensures.none refl)) in
    let right = offer_noted_empty (content_of rs) c.args.name.now c.args.size c.if-size.false free (rw c.deref-2.ensures.value at c.in_default.ensures.none)
    (omega (arith, length-content_of rs, c.len.ensures)) c.if-size-eq0.true in
    taken_in c.args.self.now _ _ _ c.in_ok-add.ensures.room c.in_ok-add.ensures.clean (reported_as c.in_ok-add.ensures.counted (λ e. cc) (λ e. cc)) c.in_ok-add.ensures.unloaded (λ nothing. nothing)
    (rw (c.in_ok-add.ensures.added, c.in_ok-add.ensures.room) right)

pub returns-else-size-eq0 : goal.returns-else-size-eq0
returns-else-size-eq0 g c =
    let rs = c.args.self.now.releases.items in
    let free = none_later rs c.args.name.now (rw c.deref.ensures.value at (c.if-is_passed.ensures.none refl)) in
    let right = offer_noted (content_of rs) c.args.name.now c.args.size c.if-size.false free (rw c.deref-2.ensures.value at c.in_default.ensures.none)
    (omega (arith, length-content_of rs, c.len.ensures)) c.if-size-eq0.false in
    taken_in c.args.self.now _ _ _ c.in_ok-add.ensures.room c.in_ok-add.ensures.clean (reported_as c.in_ok-add.ensures.counted (λ e. cc) (λ e. cc)) c.in_ok-add.ensures.unloaded (λ nothing. nothing)
    (rw (c.in_ok-add.ensures.added, c.in_ok-add.ensures.room) right)
