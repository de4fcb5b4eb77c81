-- The line of a request, or none for a report that the log hides.
use Rattle.std.proofs.Common.{◌≡◌, ℕ, Bool, true, false, List, ◌++◌, sym}
use Rattle.std.proofs.lemmas.List.{append-nil}
use Rattle.httparse.specs.Grammar.{RequestHead}
use Rattle.node_monitoring.specs.LogLines.{line_text}
use Rattle.node_monitoring.specs.declared.log_line.LoggedExchange.{LoggedExchange}
use Rattle.node_monitoring.specs.declared.log_line.LogPolicy.{LogPolicy}
use Rattle.node_monitoring.specs.Exchanges.{entry_of, line_of, is_hidden}

pub hidden : (policy : LogPolicy) (e : LoggedExchange) (site : List ℕ) (head : RequestHead) (old : List ℕ) (b : Bool) → b ≡ is_hidden policy head → b ≡ true → old ≡ old ++ line_of policy e site head
hidden policy e site head old b is true_is = rw (← is, true_is) (sym (append-nil old))

pub shown : (policy : LogPolicy) (e : LoggedExchange) (site : List ℕ) (head : RequestHead) (old new : List ℕ) (b : Bool) → b ≡ is_hidden policy head → b ≡ false
    → new ≡ old ++ line_text (entry_of policy e site head.fields) → new ≡ old ++ line_of policy e site head
shown policy e site head old new b is false_is written = rw (← is, false_is) written
