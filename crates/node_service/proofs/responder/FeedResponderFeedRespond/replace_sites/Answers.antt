use Rattle.node_service.proofs.SameResponses.{same_responses}
use Rattle.node_service.proofs.responder.FeedResponderFeedRespond.replace_sites.Goals as goal

pub returns-clause-responses : goal.returns-clause-responses
returns-clause-responses c = same_responses c.args.self.now c.replace.new.dest
