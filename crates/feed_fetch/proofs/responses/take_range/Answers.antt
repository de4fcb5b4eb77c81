use Rattle.std.proofs.Common.{Result, sym, subst}
use Rattle.feed_releases.specs.Feeds.{recorded}
use Rattle.feed_fetch.specs.declared.stop.Stop.{Stop}
use Rattle.feed_fetch.specs.Effects.{IsFilled}
use Rattle.feed_fetch.specs.Steps.{HasRange}
use Rattle.feed_fetch.specs.Answers.{IsStoppedAt}
use Rattle.feed_fetch.specs.Owed.{IsSubmitted}
use Rattle.feed_fetch.specs.declared.machine.Phase.TheVariants.{Offered}
use Rattle.feed_fetch.specs.declared.stop.RequestFault.{RequestFault}
use Rattle.feed_http.specs.declared.fetching.got.Got.{Got}
use Rattle.feed_fetch.proofs.Owed.{loss_fills, lost_submitted}
use Rattle.feed_fetch.proofs.Runs.{range_fills}
use Rattle.feed_fetch.proofs.responses.take_range.Goals as goal

pub returns-in-Ok-clause-fills : goal.returns-in-Ok-clause-fills
returns-in-Ok-clause-fills g c file piece first last has fit =
    subst (λ (r : Result (Unit {0}) Stop). IsFilled c.args.name.now file piece first last r (recorded c.args.feed.now) (recorded c.handle_response.new.feed))
    (sym c.require_progress.ensures)
    (range_fills (recorded c.args.feed.now) (recorded c.handle_response.new.feed) c.args.name.now file piece first last c.in-Ok.got c.handle_response.result fit
    (subst (HasRange file first last) c.in-Ok.is has) c.handle_response.ensures.piece)

pub returns-in-Err-clause-owed : goal.returns-in-Err-clause-owed
returns-in-Err-clause-owed g c =
    let before = recorded c.args.feed.now in
    let after = recorded c.report_loss.new.feed in
    subst (λ (reply : Result Got RequestFault). IsSubmitted c.args.name.now Offered reply (IsStoppedAt c.args.name.now c.report_loss.result) before after) (sym c.in-Err.is)
    (lost_submitted c.args.name.now Offered before after c.report_loss.result c.in-Err.why (λ e. cc (e)) c.report_loss.ensures.owed)

pub returns-in-Err-clause-fills : goal.returns-in-Err-clause-fills
returns-in-Err-clause-fills g c file piece first last has fit =
    loss_fills (recorded c.args.feed.now) (recorded c.report_loss.new.feed) c.args.name.now file piece first last Offered c.in-Err.why c.report_loss.result
    (subst (HasRange file first last) c.in-Err.is has) (c.report_loss.ensures.owed Offered (λ e. cc (e)))

pub returns-in-Err-clause-caused : goal.returns-in-Err-clause-caused
returns-in-Err-clause-caused g c refused given = c.report_loss.ensures.caused refused (λ fault e. let is = c.in-Err.is in given fault (cc))
