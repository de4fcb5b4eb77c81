use Rattle.std.proofs.Common.{Some, None, refl}
use Rattle.node_machine.proofs.Asked.{asked_moves, fetch_alone, noted_asked, sites_move}
use Rattle.node_machine.proofs.machine.NodeMachine.note_request.Goals as goal

pub returns-in-Some-fetch_to_begin-clause-history : goal.returns-in-Some-fetch_to_begin-clause-history
returns-in-Some-fetch_to_begin-clause-history g c = λ history has.
    asked_moves g.S.FeedRespond.wanted g.S.FeedRespond.responses g.S.FeedRespond.sites c.args.key c.in-Some.received.bytes.now c.policy-policy.result.is_busy c.policy-policy.result.token
    c.args.self.now c.in-Some-fetch_to_begin.asked history has c.in-Some.ensures.request c.policy-policy.ensures.token c.policy-policy.ensures.busy c.in-Some-fetch_to_begin.ensures

pub returns-in-Some-fetch_to_begin-clause-noted : goal.returns-in-Some-fetch_to_begin-clause-noted
returns-in-Some-fetch_to_begin-clause-noted g c =
    let policy = c.policy-policy in
    let asked = c.in-Some-fetch_to_begin.asked in
    noted_asked g.S.FeedRespond.wanted g.S.FeedRespond.responses g.S.FeedRespond.sites c.args.key c.in-Some.received.bytes.now policy.result.is_busy policy.result.is_reloading policy.result.token
    c.args.self.now (Some asked) (Some asked) None c.args.self.now.reload c.in-Some.ensures.request policy.ensures.token policy.ensures.busy policy.ensures.reloading
    c.in-Some-fetch_to_begin.ensures refl
    (fetch_alone policy.result.is_busy policy.result.is_reloading policy.result.token c.in-Some.received.bytes.now asked c.in-Some-fetch_to_begin.ensures) refl

pub returns-in-Some-sites_to_read-clause-history : goal.returns-in-Some-sites_to_read-clause-history
returns-in-Some-sites_to_read-clause-history g c = λ history has.
    sites_move g.S.FeedRespond.wanted g.S.FeedRespond.responses g.S.FeedRespond.sites c.args.key c.in-Some.received.bytes.now c.policy-policy.result.is_reloading c.policy-policy.result.token
    c.args.self.now c.in-Some-sites_to_read.asked history has c.in-Some.ensures.request c.policy-policy.ensures.token c.policy-policy.ensures.reloading c.in-Some-sites_to_read.ensures

pub returns-in-Some-sites_to_read-clause-noted : goal.returns-in-Some-sites_to_read-clause-noted
returns-in-Some-sites_to_read-clause-noted g c =
    let policy = c.policy-policy in
    let asked = c.in-Some-sites_to_read.asked in
    noted_asked g.S.FeedRespond.wanted g.S.FeedRespond.responses g.S.FeedRespond.sites c.args.key c.in-Some.received.bytes.now policy.result.is_busy policy.result.is_reloading policy.result.token
    c.args.self.now None c.args.self.now.requested (Some asked) (Some asked) c.in-Some.ensures.request policy.ensures.token policy.ensures.busy policy.ensures.reloading
    c.in_default-fetch_to_begin.ensures refl c.in-Some-sites_to_read.ensures refl
