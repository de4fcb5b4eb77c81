use Rattle.std.proofs.Common.{rules}
use Rattle.node_connection.proofs.HeldBytes.{covers_all}
use Rattle.node_connection.proofs.held_bytes.HeldBytes.find.Goals as goal

pub returns-in_default : goal.returns-in_default
returns-in_default c = record {
  bytes = search rules;
  unfinished = λ e. absurd (cc);
  found = λ is. covers_all c.args.self.now c.in_default.not-Unfinished;
  kept = λ size is. is;
}
