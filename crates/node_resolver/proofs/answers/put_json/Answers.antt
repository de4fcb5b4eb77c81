use Rattle.std.proofs.Common.{refl}
use Rattle.std.proofs.lemmas.Result.{on_ok_weaker}
use Rattle.node_request.specs.declared.representation.Representation.TheVariants.{Json}
use Rattle.node_resolver.specs.Answers.{sited_in}
use Rattle.node_resolver.proofs.AnswersWritten.{json_answered, json_written}
use Rattle.node_resolver.proofs.answers.put_json.Goals as goal

pub returns : goal.returns
returns c = on_ok_weaker c.put_answer_json.result
    (λ is. json_answered Json c.args.query.now.text.now c.in_ok-ask.ask c.args.lookup.now (sited_in c.args.context.now) c.args.out.now.items c.put_answer_json.new.out.items
    refl c.in_ok-ask.ensures
    (json_written c.in_ok-ask.ask c.args.lookup.now (sited_in c.args.context.now) c.args.hits.now c.in_ok-also.also c.args.out.now.items c.put_answer_json.new.out.items
    c.requires.hits c.in_ok-also.ensures is))
    c.put_answer_json.ensures
