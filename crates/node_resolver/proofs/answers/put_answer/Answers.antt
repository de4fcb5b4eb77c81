use Rattle.std.proofs.lemmas.Result.{on_ok_weaker}
use Rattle.node_resolver.specs.Answers.{sited_in}
use Rattle.node_resolver.proofs.AnswersWritten.{text_written}
use Rattle.node_resolver.proofs.answers.put_answer.Goals as goal

pub returns-in-Text : goal.returns-in-Text
returns-in-Text c = on_ok_weaker c.put_texts.result
    (text_written c.args.query.now.representation c.args.query.now.text.now c.in_ok-shares.shares c.args.lookup.now (sited_in c.args.context.now) c.args.out.now.items
    c.put_texts.new.out.items c.in-Text.is c.in_ok-shares.ensures.value)
    c.put_texts.ensures
