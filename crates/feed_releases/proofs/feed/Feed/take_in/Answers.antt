use Rattle.std.proofs.Common.{inl, refl, set, sym, ◌∙◌, ap, arith}
use Rattle.std.proofs.lemmas.Result.{err_from_is_err_and}
use Rattle.feed_model.specs.Change.{after}
use Rattle.feed_model.proofs.Pieces.{piece_refused}
use Rattle.feed_keep.proofs.Failed.{reported_as}
use Rattle.feed_releases.specs.ReleaseValue.{ReleaseValue, content_of}
use Rattle.feed_releases.specs.Growth.{change_of, parts_of}
use Rattle.feed_releases.proofs.Answering.{idle, grown_commits, memory_not, memory_not_full, only_memory, refused, refused_with, taken_in}
use Rattle.feed_releases.proofs.Growth.{found_here, length-set, name_at, one_at, set_back}
use Rattle.feed_releases.proofs.ReadAhead.{read_after, read_at}
use Rattle.feed_releases.proofs.Growing.{grown_right, growth_allowed, taken_activated, taken_kept}
use Rattle.feed_releases.proofs.feed.Feed.take_in.Goals as goal

pub growth-requires-clause-inside : goal.growth-requires-clause-inside
growth-requires-clause-inside g c =
    (c.requires.reaches c.index.result.now.kept (found_here c.args.self.now.releases.items c.args.name.now c.args.at c.index.result.now c.requires.place c.index.ensures)).within

pub growth-requires-clause-piece : goal.growth-requires-clause-piece
growth-requires-clause-piece g c =
    (c.requires.reaches c.index.result.now.kept (found_here c.args.self.now.releases.items c.args.name.now c.args.at c.index.result.now c.requires.place c.index.ensures)).small.most

pub growth-requires-clause-new : goal.growth-requires-clause-new
growth-requires-clause-new g c = c.requires.new c.index.result.now.kept (found_here c.args.self.now.releases.items c.args.name.now c.args.at c.index.result.now c.requires.place c.index.ensures)

pub growth-requires-clause-reads : goal.growth-requires-clause-reads
growth-requires-clause-reads g c =
    read_at c.args.self.now.releases.items c.args.at c.index.result.now c.take_running-running.result c.index.ensures
    (c.take_running-running.ensures.reads c.args.self.now.releases.items c.args.self.now.reads)

pub returns-in_err-growth : goal.returns-in_err-growth
returns-in_err-growth g c =
    let rs = c.args.self.now.releases.items in
    let n = c.args.name.now in
    let r = c.index.result.now in
    let found = found_here rs n c.args.at r c.requires.place c.index.ensures in
    let reach = c.requires.reaches r.kept found in
    let lies = c.requires.new r.kept found in
    let p = err_from_is_err_and c.from_residual.result c.from_residual.ensures.1 in
    let memory = only_memory _ c.in_err-growth.ensures.refused in
    rw (p.1, p.2, memory) (idle c.args.self.now _ _ _ refl refl refl memory_not (λ e. absurd (memory_not_full e))
    (piece_refused (content_of rs) n c.args.first c.args.total c.args.bytes.now r.kept _ reach lies.0 lies.1 (inl refl)))

pub grow-requires-clause-allowed : goal.grow-requires-clause-allowed
grow-requires-clause-allowed g c =
    let rs = c.args.self.now.releases.items in
    let n = c.args.name.now in
    let r = c.index_mut.result.now in
    let found = found_here rs n c.args.at r c.requires.place c.index_mut.ensures.value in
    let same = one_at rs c.args.at c.index.result.now r c.requires.place.within c.index.ensures c.index_mut.ensures.value in
    λ clean. rw (c.args.self.now.mirrors clean) (growth_allowed _ (content_of rs) n c.args.first c.args.total c.args.bytes.now r.kept c.in_ok-growth.growth
    (name_at rs n c.args.at r c.requires.place c.index_mut.ensures.value)
    (c.requires.reaches r.kept found) (c.requires.new r.kept found) (rw same at c.in_ok-growth.ensures.growth))

pub returns-in_err-reply : goal.returns-in_err-reply
returns-in_err-reply g c =
    let rs = c.args.self.now.releases.items in
    let n = c.args.name.now in
    let r = c.index_mut.result.now in
    let found = found_here rs n c.args.at r c.requires.place c.index_mut.ensures.value in
    let reach = c.requires.reaches r.kept found in
    let lies = c.requires.new r.kept found in
    let back = set_back rs c.args.at r c.grow.new.self c.index_mut.ensures.value c.in_err-reply.ensures.same in
    let p = err_from_is_err_and c.from_residual-in_err-reply.result c.from_residual-in_err-reply.ensures.1 in
    rw (p.1, p.2) (refused_with c.args.self.now _ _ c.in_err-reply.field-0.0 back refl c.in_err-reply.ensures.committed.was
    (reported_as c.in_err-reply.ensures.committed.counted (λ e. cc) (λ e. cc)) c.in_err-reply.ensures.committed.unloaded c.in_err-reply.ensures.committed.fault
    (piece_refused (content_of rs) n c.args.first c.args.total c.args.bytes.now r.kept _ reach lies.0 lies.1 (refused c.in_err-reply.field-0.0 c.in_err-reply.ensures.committed.fault)))

pub invariant_of-self-in-Activated-1-clause-mirrors : goal.invariant_of-self-in-Activated-1-clause-mirrors
invariant_of-self-in-Activated-1-clause-mirrors g c = λ clean.
    let committed = c.in_ok-reply.ensures.committed in
    committed.made clean ∙ ap (after (change_of c.index_mut.result.now.kept c.in_ok-growth.growth)) (c.args.self.now.mirrors (committed.was clean))
    ∙ sym (taken_activated c.args.self.now.releases.items c.drop_earlier.new.releases.items c.args.name.now c.args.at c.index_mut.result.now c.grow.new.self c.in_ok-growth.growth _
    c.requires.place c.index_mut.ensures.value (ap (λ (y : ReleaseValue). y.kept) c.in_ok-reply.ensures.taken) c.in_ok-reply.ensures.reply c.in-Activated.is c.drop_earlier.ensures.dropped)

pub invariant_of-self-in-Activated-1-clause-few : goal.invariant_of-self-in-Activated-1-clause-few
invariant_of-self-in-Activated-1-clause-few g c =
    omega (arith, c.drop_earlier.ensures.fewer, length-set c.args.self.now.releases.items c.args.at c.grow.new.self, c.args.self.now.few)

pub invariant_of-self-in_default-clause-mirrors : goal.invariant_of-self-in_default-clause-mirrors
invariant_of-self-in_default-clause-mirrors g c = λ clean.
    let committed = c.in_ok-reply.ensures.committed in
    committed.made clean ∙ ap (after (change_of c.index_mut.result.now.kept c.in_ok-growth.growth)) (c.args.self.now.mirrors (committed.was clean))
    ∙ sym (taken_kept c.args.self.now.releases.items c.args.name.now c.args.at c.index_mut.result.now c.grow.new.self c.in_ok-growth.growth _
    c.requires.place c.index_mut.ensures.value (ap (λ (y : ReleaseValue). y.kept) c.in_ok-reply.ensures.taken) c.in_ok-reply.ensures.reply c.in_default.not-Activated)

pub invariant_of-self-in_default-clause-few : goal.invariant_of-self-in_default-clause-few
invariant_of-self-in_default-clause-few g c = omega (arith, length-set c.args.self.now.releases.items c.args.at c.grow.new.self, c.args.self.now.few)

pub returns-in-Activated : goal.returns-in-Activated
returns-in-Activated g c =
    let growth = c.in_ok-growth.growth in
    let content = taken_activated c.args.self.now.releases.items c.drop_earlier.new.releases.items c.args.name.now c.args.at c.index_mut.result.now c.grow.new.self growth _
    c.requires.place c.index_mut.ensures.value (ap (λ (y : ReleaseValue). y.kept) c.in_ok-reply.ensures.taken) c.in_ok-reply.ensures.reply c.in-Activated.is c.drop_earlier.ensures.dropped in
    rw c.in_ok-reply.ensures.reply (taken_in c.args.self.now _ _ _ refl c.in_ok-reply.ensures.committed.was (reported_as c.in_ok-reply.ensures.committed.counted (λ e. cc) (λ e. cc))
    c.in_ok-reply.ensures.committed.unloaded (grown_commits growth.missing growth.standing)
    (grown_right c.args.self.now.releases.items _ c.args.name.now c.args.at c.args.first c.args.total c.args.bytes.now c.index.result.now c.index_mut.result.now growth c.requires.place c.index.ensures
    c.index_mut.ensures.value c.requires.reaches c.requires.new c.in_ok-growth.ensures.growth content))

pub returns-in_default : goal.returns-in_default
returns-in_default g c =
    let growth = c.in_ok-growth.growth in
    let content = taken_kept c.args.self.now.releases.items c.args.name.now c.args.at c.index_mut.result.now c.grow.new.self growth _
    c.requires.place c.index_mut.ensures.value (ap (λ (y : ReleaseValue). y.kept) c.in_ok-reply.ensures.taken) c.in_ok-reply.ensures.reply c.in_default.not-Activated in
    rw c.in_ok-reply.ensures.reply (taken_in c.args.self.now _ _ _ refl c.in_ok-reply.ensures.committed.was (reported_as c.in_ok-reply.ensures.committed.counted (λ e. cc) (λ e. cc))
    c.in_ok-reply.ensures.committed.unloaded (grown_commits growth.missing growth.standing)
    (grown_right c.args.self.now.releases.items _ c.args.name.now c.args.at c.args.first c.args.total c.args.bytes.now c.index.result.now c.index_mut.result.now growth c.requires.place c.index.ensures
    c.index_mut.ensures.value c.requires.reaches c.requires.new c.in_ok-growth.ensures.growth content))

pub invariant_of-self-in-Activated-1-clause-reads : goal.invariant_of-self-in-Activated-1-clause-reads
invariant_of-self-in-Activated-1-clause-reads g c a is = absurd (let none = c.take_running-running.ensures.none in cc)

pub invariant_of-self-in_default-clause-reads : goal.invariant_of-self-in_default-clause-reads
invariant_of-self-in_default-clause-reads g c =
    let rs = c.args.self.now.releases.items in
    let r = c.index_mut.result.now in
    let x = c.grow.new.self in
    let growth = c.in_ok-growth.growth in
    let same = one_at rs c.args.at c.index.result.now r c.requires.place.within c.index.ensures c.index_mut.ensures.value in
    let reads = rw same at c.in_ok-growth.ensures.reads in
    c.of.ensures (set rs c.args.at x) (omega (arith, c.requires.place.within, length-set rs c.args.at x))
    (read_after rs c.args.at r x (parts_of growth) growth.standing c.growth.new.running c.requires.place.within
    (ap (λ (y : ReleaseValue). y.kept) c.in_ok-reply.ensures.taken) reads)
