use Rattle.std.proofs.lemmas.Result.{on_ok_weaker}
use Rattle.feed_xml.proofs.Written.{element_written}
use Rattle.feed_xml.specs.Elements.{leaf}
use Rattle.node_hits.proofs.sfx_target.put_statement.Goals as goal

pub returns : goal.returns
returns c =
    on_ok_weaker c.put_closed.result
    (element_written c.args.out.now.items c.put_opened.new.out.items c.put_leaf.new.out.items c.put_closed.new.out.items c.args.name.now c.args.name.now
    (leaf c.args.inner.now c.args.text.now) c.in_ok-put_opened.ensures c.in_ok-put_leaf.ensures)
    c.put_closed.ensures
