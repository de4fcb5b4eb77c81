use Rattle.node_monitoring.proofs.ReportHeads.{report_message, report_says}
use Rattle.node_monitoring.proofs.report_text.report_response.Goals as goal

pub returns-clause-message : goal.returns-clause-message
returns-clause-message c =
    report_message c.args.kind c.args.keeps c.args.head_alone c.args.body.now c.in_ok-report_bytes.field-0.items
    c.in_ok-report_bytes.ensures.size c.in_ok-report_bytes.ensures.text

pub returns-clause-says : goal.returns-clause-says
returns-clause-says c =
    report_says c.args.kind c.args.keeps c.args.head_alone c.args.body.now c.in_ok-report_bytes.field-0.items (
    report_message c.args.kind c.args.keeps c.args.head_alone c.args.body.now c.in_ok-report_bytes.field-0.items
    c.in_ok-report_bytes.ensures.size c.in_ok-report_bytes.ensures.text
    )
