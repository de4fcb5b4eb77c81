use Rattle.std.proofs.Common.{◌≡◌, ◌⊎◌, ◌∙◌, IfErr, Ok, Result, ap, sym, subst}
use Rattle.feed_http.specs.declared.fetching.got.Got.{Got}
use Rattle.feed_http.specs.declared.fetching.got.Got.TheVariants.{Size}
use Rattle.feed_releases.specs.Feeds.{recorded}
use Rattle.feed_fetch.specs.declared.machine.Phase.TheVariants.{New}
use Rattle.feed_fetch.specs.declared.stop.RequestFault.{RequestFault}
use Rattle.feed_fetch.specs.declared.stop.Stop.{Stop}
use Rattle.feed_fetch.specs.declared.stop.Stop.TheVariants.{Missing, NoProgress}
use Rattle.feed_fetch.specs.Answers.{IsStoppedAt, first_stop}
use Rattle.feed_fetch.specs.Effects.{IsOpened}
use Rattle.feed_fetch.specs.Owed.{IsSubmitted}
use Rattle.feed_fetch.specs.Steps.{HasLength}
use Rattle.feed_fetch.proofs.Owed.{loss_opens, lost_submitted, offer_reported, one_offer}
use Rattle.feed_fetch.proofs.Runs.{length_opens}
use Rattle.feed_fetch.proofs.responses.take_length.Goals as goal

pub returns-in-Size-clause-owed : goal.returns-in-Size-clause-owed
returns-in-Size-clause-owed g c =
    let n = c.args.name.now in
    let before = recorded c.args.feed.now in
    let after = recorded c.offer_size-offered.new.feed in
    let reply : c.args.reply.now ≡ Ok (Size c.in-Size.size) = c.in-Ok.is ∙ ap (λ (given : Got). Ok given) c.in-Size.is in
    let right = offer_reported before after n c.in-Ok.got c.in-Size.size (λ stop. (stop ≡ Missing) ⊎ (stop ≡ NoProgress)) c.report_size-reported.result c.offer_size-offered.result c.in-Size.is
    c.report_size-reported.ensures.stops c.offer_size-offered.ensures.right in
    subst (λ (r : Result (Unit {0}) Stop). IsSubmitted n New c.args.reply.now (λ k. IfErr r (λ stop. IsStoppedAt n stop k)) before after) (sym c.first_stop.ensures)
    (subst (λ (reply : Result Got RequestFault). IsSubmitted n New reply
    (λ k. IfErr (first_stop c.report_size-reported.result c.offer_size-offered.result) (λ stop. IsStoppedAt n stop k)) before after) (sym reply)
    (one_offer before after n c.in-Size.size (first_stop c.report_size-reported.result c.offer_size-offered.result) right))

pub returns-in-Size-clause-opens : goal.returns-in-Size-clause-opens
returns-in-Size-clause-opens g c file has fit =
    let n = c.args.name.now in
    let before = recorded c.args.feed.now in
    let after = recorded c.offer_size-offered.new.feed in
    let right = offer_reported before after n c.in-Ok.got c.in-Size.size (λ stop. (stop ≡ Missing) ⊎ (stop ≡ NoProgress)) c.report_size-reported.result c.offer_size-offered.result c.in-Size.is
    c.report_size-reported.ensures.stops c.offer_size-offered.ensures.right in
    subst (λ (r : Result (Unit {0}) Stop). IsOpened n file r before after) (sym c.first_stop.ensures)
    (length_opens before after n file c.in-Ok.got c.in-Size.size (first_stop c.report_size-reported.result c.offer_size-offered.result) fit c.in-Size.is (subst (HasLength file) c.in-Ok.is has) right)

pub returns-in-Err-clause-owed : goal.returns-in-Err-clause-owed
returns-in-Err-clause-owed g c =
    let before = recorded c.args.feed.now in
    let after = recorded c.report_loss.new.feed in
    subst (λ (reply : Result Got RequestFault). IsSubmitted c.args.name.now New reply (IsStoppedAt c.args.name.now c.report_loss.result) before after) (sym c.in-Err.is)
    (lost_submitted c.args.name.now New before after c.report_loss.result c.in-Err.why (λ e. cc (e)) c.report_loss.ensures.owed)

pub returns-in-Err-clause-opens : goal.returns-in-Err-clause-opens
returns-in-Err-clause-opens g c file has fit =
    loss_opens (recorded c.args.feed.now) (recorded c.report_loss.new.feed) c.args.name.now file New c.in-Err.why c.report_loss.result
    (subst (HasLength file) c.in-Err.is has) (c.report_loss.ensures.owed New (λ e. cc (e)))

pub returns-in-Err-clause-caused : goal.returns-in-Err-clause-caused
returns-in-Err-clause-caused g c refused given = c.report_loss.ensures.caused refused (λ fault e. let is = c.in-Err.is in given fault (cc))
