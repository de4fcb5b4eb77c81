use Rattle.std.proofs.lemmas.Result.{IfOk-weaker}
use Rattle.feed_model.specs.History.{History}
use Rattle.feed_model.specs.Content.{IsContent}
use Rattle.feed_releases.specs.Feeds.{recorded}
use Rattle.node_state.specs.StateReports.{IsSomeResponse}
use Rattle.node_service.specs.Reports.{IsReportIn}
use Rattle.node_service.proofs.Reported.{report_of_slices}
use Rattle.node_service.proofs.responder.FeedResponder.report.Goals as goal

pub returns-clause-value : goal.returns-clause-value
returns-clause-value g c = IfOk-weaker c.report.result
    (IsSomeResponse c.args.request.now.received.bytes.now c.args.request.now.persists c.deref-3.result.now c.args.self.now.has_all_series c.deref-4.result.now)
    (λ found. (h : History) → IsContent (recorded c.args.occasion.now.feed.now) h
    → IsReportIn c.args.self.now c.args.occasion.now.is_local h c.args.request.now.received.bytes.now c.args.request.now.persists found)
    (λ found is. λ h content. report_of_slices c.args.self.now c.args.occasion.now.is_local h c.args.request.now.received.bytes.now c.args.request.now.persists
    c.in_ok-actives.actives.items c.deref.result.now c.deref-2.result.now c.in_ok-releases.releases.items c.deref-3.result.now
    c.in_ok-missing.missing.items c.deref-4.result.now found c.if-not-is_report.ensures (c.in_ok-actives.ensures.reported h content)
    c.deref.ensures.value c.in_ok-releases.ensures c.deref-3.ensures.value c.deref-2.ensures.value c.in_ok-missing.ensures c.deref-4.ensures.value is)
    c.report.ensures.value
