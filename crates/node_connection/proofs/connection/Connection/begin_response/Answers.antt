use Rattle.std.proofs.Common.{rules, ap}
use Rattle.node_connection.proofs.connection.Connection.begin_response.Goals.{then-is_empty, else-is_empty}
use Rattle.node_connection.proofs.connection.Connection.begin_response.Goals as goal

pub returns-clause-begun : goal.returns-clause-begun
returns-clause-begun c = record {
  text = search rules;
  sent = search rules;
  sent_len = elim c.if-is_empty.branch [
    | then-is_empty w ↦ ap (λ s. s.1.1.1.1.1.1.1.1.1.1.1.0) w.self-is
    | else-is_empty w ↦ ap (λ s. s.1.1.1.1.1.1.1.1.1.1.1.0) w.self-is
  ];
  request_len = search rules;
  after_is = search rules;
  received = search rules;
  phase = search rules;
  sent_since = search rules;
  elapsed = search rules;
}
