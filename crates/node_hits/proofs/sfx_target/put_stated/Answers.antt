use Rattle.std.proofs.lemmas.Result.{on_ok_weaker}
use Rattle.feed_xml.proofs.Written.{element_written}
use Rattle.node_hits.specs.Sfx.{stated_marks, words_marks}
use Rattle.node_hits.specs.declared.sfx_names.TheConstants.{COVERAGE}
use Rattle.node_hits.proofs.sfx_target.put_stated.Goals as goal

pub returns : goal.returns
unfolding stated_marks
returns c =
    on_ok_weaker c.put_closed.result
    (element_written c.args.out.now.items c.put_opened.new.out.items c.put_words.new.out.items c.put_closed.new.out.items COVERAGE.now COVERAGE.now
    (words_marks c.args.covered.now c.args.embargo.now) c.in_ok-put_opened.ensures c.in_ok-put_words.ensures)
    c.put_closed.ensures
