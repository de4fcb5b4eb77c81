use Rattle.node_response.proofs.HeadsRead.{message_says}
use Rattle.node_operator.proofs.Connections.{feed_plain, stated}
use Rattle.node_operator.proofs.feed_responses.respond_about_feed.Goals as goal

pub returns-clause-says : goal.returns-clause-says
returns-clause-says g c = let found = c.in-Some-parsed.ensures in
    let plain = feed_plain c.in-Some.token.now c.is_busy.result found.head c.in-Some-feed_target.target c.in_ok-reply.reply (c.in_ok-reply.ensures found.head found.has) in
    let fits = stated c.in_ok-reply.reply plain in
    message_says c.args.keeps c.is_head.result c.in_ok-response.response (c.in_ok-response.ensures.message fits.0 fits.1)
