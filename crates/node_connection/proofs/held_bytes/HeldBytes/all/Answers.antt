use Rattle.std.proofs.Common.{rules, subst, ◌≡◌, length, true}
use Rattle.node_connection.specs.HeldBytes.{covers}
use Rattle.node_connection.proofs.HeldBytes.{covers_all}
use Rattle.node_connection.proofs.held_bytes.HeldBytes.all.Goals as goal

pub front-requires : goal.front-requires
front-requires c =
    let same : length c.args.self.now.bytes.items ≡ c.len.result = search rules in
    record {
      within = search rules;
      found = subst (λ n. covers c.args.self.now n ≡ true) same (covers_all c.args.self.now c.in_default.not-Unfinished);
    }
