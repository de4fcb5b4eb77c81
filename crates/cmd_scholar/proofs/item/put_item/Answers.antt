use Rattle.std.proofs.Common.{◌++◌, ap, ◌∙◌, sym}
use Rattle.std.proofs.lemmas.List.{append-nil}
use Rattle.std.proofs.lemmas.Result.{on_ok_weaker}
use Rattle.cmd_scholar.specs.Items.{item_by, item_text}
use Rattle.feed_xml.specs.Marks.{xml_text}
use Rattle.cmd_scholar.proofs.item.put_item.Goals as goal

pub returns-in-Ok : goal.returns-in-Ok
unfolding item_text
returns-in-Ok c =
    on_ok_weaker c.put_item_with.result
    (λ written. written ∙ ap (λ r. c.args.out.now.items ++ xml_text (item_by r c.args.row.now)) c.in-Ok.ensures)
    c.put_item_with.ensures

pub returns-in-Err : goal.returns-in-Err
unfolding item_text
returns-in-Err c = sym (append-nil c.args.out.now.items) ∙ ap (λ r. c.args.out.now.items ++ xml_text (item_by r c.args.row.now)) c.in-Err.ensures
