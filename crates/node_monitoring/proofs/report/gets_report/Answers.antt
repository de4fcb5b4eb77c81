use Rattle.std.proofs.Common.{◌≡◌, ℕ, Bool, true, false, List, MatchBool, inr, sym}
use Rattle.httparse.specs.Grammar.{RequestHead}
use Rattle.node_request.specs.FoundRequests.{BeginsWith}
use Rattle.node_monitoring.specs.Reports as reports
use Rattle.node_monitoring.specs.Reports.{GetsReport, GetsNoReport}
use Rattle.node_monitoring.proofs.report.gets_report.Goals as goal

whether : (is_local is_open : Bool) (bytes : List ℕ) (head : RequestHead) → BeginsWith bytes head → (gets : Bool) → gets ≡ reports.gets_report is_local is_open head
    → MatchBool gets (GetsReport is_local is_open bytes) (GetsNoReport is_local is_open bytes)
whether is_local is_open bytes head begins true is = (head, begins, sym is)
whether is_local is_open bytes head begins false is = inr (head, begins, sym is)

pub returns-in-Some : goal.returns-in-Some
returns-in-Some c = let found = c.in-Some.ensures in
    whether c.args.is_local c.args.is_open c.args.received.now.bytes.now found.head found.begins c.request_gets_report.result (c.request_gets_report.ensures found.head found.has)
