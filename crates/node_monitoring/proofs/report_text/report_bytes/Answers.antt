use Rattle.node_monitoring.proofs.ReportHeads.{report_written}
use Rattle.node_monitoring.proofs.report_text.report_bytes.Goals as goal

pub returns-clause-text : goal.returns-clause-text
returns-clause-text c = report_written c.args.kind c.args.keeps c.args.head_alone c.args.body.now c.start_text.result.now c.end_text.result.now c.sent_body.result.now _ _ _ _
    c.start_text.ensures c.end_text.ensures c.sent_body.ensures c.in_ok-bytes.ensures.items c.in_ok-put_number.ensures c.in_ok-put.ensures c.in_ok-put-2.ensures
