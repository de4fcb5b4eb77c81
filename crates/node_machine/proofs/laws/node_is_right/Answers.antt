use Rattle.std.specs.Prelude.{option_copied}
use Rattle.node_machine.specs.Nodes.{rules_of}
use Rattle.node_machine.proofs.Busy.{in_turn}
use Rattle.node_machine.proofs.Feeds.{never_older}
use Rattle.node_machine.proofs.Moments.{changes_by_token, of_the_moment}
use Rattle.node_machine.proofs.Reloads.{reloads_by_token, reloads_in_turn}
use Rattle.node_machine.proofs.Responses.{all_served_in}
use Rattle.node_machine.proofs.laws.node_is_right.Goals as goal

pub returns : goal.returns
returns g c = λ history has.
    let node = c.args._node.now in
    let rules = rules_of g.S.FeedRespond.wanted g.S.FeedRespond.responses g.S.FeedRespond.sites node in
    let token = option_copied node.token in
    record {
      served = λ key. all_served_in rules token key history has.allowed;
      moment = of_the_moment rules token history has.allowed;
      legal = has.feed.legal;
      given = has.given;
      later = never_older _ history has.feed.legal;
      authorized = changes_by_token rules token history has.allowed;
      in_turn = in_turn rules token history has.allowed;
      reloaded = reloads_by_token rules token history has.allowed;
      reloads_in_turn = reloads_in_turn rules token history has.allowed;
    }
