use Rattle.std.proofs.Common.{◌++◌, ap, ◌∙◌}
use Rattle.std.proofs.lemmas.Result.{on_ok_weaker}
use Rattle.node_monitoring.specs.LogLines.{line_text}
use Rattle.node_monitoring.proofs.LineParts.{fragments_line}
use Rattle.node_monitoring.proofs.log_entry.put_line.Goals as goal

pub returns : goal.returns
returns c = let e = c.entry.inside in on_ok_weaker c.put_all.result
    (λ written. written ∙ ap (λ t. c.args.out.now.items ++ t)
    (fragments_line e.client.now e.seconds e.line.method.now e.line.gap.now e.line.target.now e.line.version.now e.status e.sent e.referrer.now e.user_agent.now
    e.millis e.site.now c.from.result c.from.ensures
    ∙ ap line_text c.entry.view_is))
    c.put_all.ensures
