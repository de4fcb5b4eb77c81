use Rattle.std.proofs.Common.{◌≡◌, false, true, IfErr, inl, inr, refl}
use Rattle.feed_releases.specs.Feeds.{recorded}
use Rattle.feed_fetch.specs.Answers.{IsStoppedAt}
use Rattle.feed_fetch.specs.Effects.{IsFetchEvent}
use Rattle.feed_fetch.proofs.Extensions.{ends_done, ends_unflushed, ends_told}
use Rattle.feed_fetch.proofs.Fetches.{got_good}
use Rattle.feed_fetch.proofs.fetch_loop.fetch_with.Goals as goal

pub returns-in_default-clause-extends : goal.returns-in_default-clause-extends
returns-in_default-clause-extends g c =
    ends_unflushed (IsFetchEvent g.D.Dial.responses c.args.host.now c.args.name.now) c.args.name.now (recorded c.args.feed.now)
    (recorded c.fetch_file-outcome.new.feed)
    (λ k. IfErr c.fetch_file-outcome.result (λ stop. IsStoppedAt c.args.name.now stop k)) _ _ _ c.in_default.ensures.failed c.fetch_file-outcome.ensures.extends

pub returns-then-is_reported-clause-extends : goal.returns-then-is_reported-clause-extends
returns-then-is_reported-clause-extends g c =
    ends_done (IsFetchEvent g.D.Dial.responses c.args.host.now c.args.name.now) c.args.name.now (recorded c.args.feed.now) (recorded c.fetch_file-outcome.new.feed)
    0 _ _
    (λ k is. (c.in-Ok-outcome.ensures.done k is, inl (refl, c.if-is_reported.ensures.reported k is refl)))
    c.in-Ok-outcome.ensures.extends

pub returns-else-is_reported-clause-extends : goal.returns-else-is_reported-clause-extends
returns-else-is_reported-clause-extends g c =
    ends_done (IsFetchEvent g.D.Dial.responses c.args.host.now c.args.name.now) c.args.name.now (recorded c.args.feed.now) (recorded c.fetch_file-outcome.new.feed)
    1 _ _
    (λ k is. (c.in-Ok-outcome.ensures.done k is, inr (refl, λ reported. (let f : false ≡ true = c.if-is_reported.ensures.found k is reported in absurd (cc)))))
    c.in-Ok-outcome.ensures.extends

pub returns-else-is_reported-clause-gets : goal.returns-else-is_reported-clause-gets
returns-else-is_reported-clause-gets g c file serves fit h is ready =
    let x = got_good (recorded c.args.feed.now) (recorded c.fetch_file-outcome.new.feed) c.args.name.now file fit
    (c.in-Ok-outcome.ensures.gets file serves fit) h is ready
    in
    let f : false ≡ true = c.if-is_reported.ensures.good x.0 x.1 x.2 x.3 in
    absurd (cc)

pub returns-in-Err-clause-extends : goal.returns-in-Err-clause-extends
returns-in-Err-clause-extends g c =
    ends_told (IsFetchEvent g.D.Dial.responses c.args.host.now c.args.name.now) c.args.name.now (recorded c.args.feed.now) (recorded c.fetch_file-outcome.new.feed)
    c.in-Err.stop c.print_stop.result _ _ _ _ c.in-Err.ensures.caused c.in-Ok.ensures.printed c.print_stop.ensures.status c.in-Err.ensures.extends
