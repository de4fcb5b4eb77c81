use Rattle.std.proofs.Common.{◌∙◌, sym}
use Rattle.node_monitoring.proofs.HeadLines.{head_line}
use Rattle.node_monitoring.proofs.shown_line.shown_line.Goals as goal

pub returns-in-Some : goal.returns-in-Some
returns-in-Some c = let found = c.in-Some.ensures in
    rw c.if-has_queries.false (c.parsed_line.ensures found.head found.has ∙ sym (head_line c.args.received.now.bytes.now found.head found.begins))
