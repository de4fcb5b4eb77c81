use Rattle.std.proofs.Common.{ap, ◌∙◌, ◌++◌, length}
use Rattle.node_response.specs.Responses.{ResponseValue, status_code, is_bodiless, response_head}
use Rattle.node_response.proofs.HeadsRead.{message_of, sent_size}
use Rattle.node_response.proofs.response.Response.response.Goals as goal

pub returns-clause-message : goal.returns-clause-message
returns-clause-message c = λ located tagged. message_of c.args.keeps c.args.head_alone c.args.self.now c.put.new.out.items c.status_code.result (length c.body-body.result.now)
    (record {
      location = located;
      size = sent_size (is_bodiless (status_code c.args.self.now.status)) c.args.self.now.body c.in_ok-put_head.ensures.size;
      tag = tagged;
      age = c.in_ok-put_head.ensures.age;
    })
    (c.in_ok-put.ensures ∙ ap (λ t. t ++ c.body-body.result.now) (c.in_ok-put_head.ensures.text ∙ ap (λ t. t ++ response_head c.args.keeps c.args.self.now) c.new-bytes.ensures.items)
    ∙ ap (λ t. response_head c.args.keeps c.args.self.now ++ t) c.body-body.ensures)
    (c.status_code.ensures ∙ ap (λ (r : ResponseValue). status_code r.status) c.self.view_is)
    (ap length c.body-body.ensures)
