-- The printed names of the reasons why a query is rejected.
use Rattle.std.specs.Prelude.{ℕ, List, codes}
use Rattle.feed_answer.specs.declared.fault.QueryFault.{QueryFault}
use Rattle.feed_answer.specs.declared.fault.QueryFault.TheVariants.{TooLong, Version, OtherFormat, NoIssn, NoIsbn, Memory}

-- the printed name of a reason why a query is rejected
abbrev pub query_fault_text : QueryFault → List ℕ
query_fault_text TooLong = codes "TooLong"
query_fault_text Version = codes "Version"
query_fault_text OtherFormat = codes "OtherFormat"
query_fault_text NoIssn = codes "NoIssn"
query_fault_text NoIsbn = codes "NoIsbn"
query_fault_text Memory = codes "Memory"
