use Rattle.std.proofs.lemmas.Result.{on_ok_weaker}
use Rattle.node_pages.proofs.NothingTold.{nothing_told}
use Rattle.node_pages.proofs.refusals.put_json.Goals as goal

pub returns : goal.returns
returns c = on_ok_weaker c.put_answer_json.result
    (nothing_told c.args.out.now.items c.put_answer_json.new.out.items c.reason_text.result.now c.args.ask.now c.args.reason c.new-none.result c.reason_text.ensures c.new-none.ensures)
    c.put_answer_json.ensures
