use Rattle.std.proofs.Common.{◌≡◌, ◌≤◌, ◌-◌, ◌++◌, ℕ, List, length, take, Some, IfSome}
use Rattle.feed_http.specs.ArrivingResponses.{HasPassedResponse, file_length}
use Rattle.feed_http.proofs.fetching.response_machine.ResponseMachine.take.Given as goal

abbrev pub invariant-steps : goal.invariant-steps
invariant-steps l = record {
  within : l.count ≤ length l.bytes;
  method : l.self.method ≡ l.fn.self.method;
  stated : IfSome (file_length l.fn.self.place) (λ size. file_length l.self.place ≡ Some size);
  passed : (text before : List ℕ) → HasPassedResponse l.fn.self text (before ++ l.fn.body.items) → HasPassedResponse l.self (text ++ take l.count l.bytes) (before ++ l.body.items);
}

abbrev pub decreases-steps : goal.decreases-steps
decreases-steps l = length l.bytes - l.count
