use Rattle.std.proofs.Common.{rules, ◌≡◌, ◌<◌, true, length, None, refl, sym, subst}
use Rattle.feed_http.specs.ArrivingResponses.{file_length, is_unsized}
use Rattle.node_machine.specs.declared.exchange.Exchange.{Exchange}
use Rattle.node_machine.specs.Exchanges.{IsExchange, unsized_limit}
use Rattle.node_machine.proofs.Exchanging.{completes, follows, has_heads, passes_limit}
use Rattle.node_machine.proofs.exchange.Arrival.follow.Goals as goal
use Rattle.node_machine.proofs.exchange.Arrival.follow.Goals.{in-Some, in-None}

pub returns-then-is_some : goal.returns-then-is_some
returns-then-is_some c events given taken =
    follows events given c.args.self c.args.taken.count c.args.taken.is_over taken _ refl c.discard.ensures refl refl

pub returns-then-taken : goal.returns-then-taken
returns-then-taken c events given taken =
    let none : file_length c.args.self.machine.place ≡ None = search rules in
    elim c.match-finish.branch [
      | in-Some w ↦
          subst (λ (x : Exchange). IsExchange x events given) (sym w.result-is)
          (completes events given c.args.self c.args.taken.count c.args.taken.is_over taken w.in-Some.got c.if-taken.true none w.in-Some.ensures.some)
      | in-None w ↦ has_heads events given c.args.self c.args.taken.count c.args.taken.is_over taken c.if-taken.true w.in-None.ensures.none
    ]

pub returns-then-len-gt-UNSIZED_LIMIT : goal.returns-then-len-gt-UNSIZED_LIMIT
returns-then-len-gt-UNSIZED_LIMIT c events given taken =
    let unsized : is_unsized c.args.self.machine.place ≡ true = search rules in
    let long : unsized_limit < length c.args.self.body.items = search rules in
    passes_limit events given c.args.self c.args.taken.count c.args.taken.is_over taken unsized long
