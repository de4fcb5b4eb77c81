use Rattle.std.proofs.Common.{◌∙◌, ap, min}
use Rattle.std.proofs.Math.Nat.{min-eq_left}
use Rattle.node_service.proofs.Turns.{form_within}
use Rattle.node_service.proofs.responder.FeedResponderFeedRespond.body_len.Goals as goal

pub returns-clause-wanted : goal.returns-clause-wanted
returns-clause-wanted c = λ head has. c.min.ensures ∙ ap (λ n. min n 8192) (c.form_length.ensures head has) ∙ min-eq_left (form_within head)
