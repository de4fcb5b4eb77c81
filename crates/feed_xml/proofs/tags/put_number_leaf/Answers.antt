use Rattle.std.proofs.lemmas.Result.{on_ok_weaker}
use Rattle.feed_xml.proofs.Written.{number_written}
use Rattle.feed_xml.proofs.tags.put_number_leaf.Goals as goal

pub returns : goal.returns
returns c =
    on_ok_weaker c.put_closed.result
    (number_written c.args.out.now.items c.put_opened.new.out.items c.put_number.new.out.items c.put_closed.new.out.items c.args.name.now c.args.number
    c.ranges.number.fits c.in_ok-put_opened.ensures c.in_ok-put_number.ensures)
    c.put_closed.ensures
