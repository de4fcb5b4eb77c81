use Rattle.std.proofs.Common.{◌∙◌, sym}
use Rattle.feed_openurl.proofs.Queries.{asked_is, query_is}
use Rattle.feed_openurl.proofs.openurl.OpenUrl.query.Goals as goal

pub returns-in_ok-query-in-None : goal.returns-in_ok-query-in-None
returns-in_ok-query-in-None c =
    asked_is c.args.self.now c.in_ok-query-in-None.query
    (query_is c.args.self.now _ _ _ _ _ c.in_ok-query-in-None.ensures c.issns.ensures.value c.isbns.ensures c.issns.ensures.valid c.days-days.ensures
    c.volume_number-volume.ensures)
    (sym c.refusal.ensures ∙ c.in-None.is)
