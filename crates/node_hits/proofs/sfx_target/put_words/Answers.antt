use Rattle.std.proofs.lemmas.Result.{on_ok_weaker}
use Rattle.feed_xml.proofs.Written.{element_written}
use Rattle.node_hits.specs.Sfx.{statement_marks, words_marks}
use Rattle.node_hits.specs.declared.sfx_names.TheConstants.{COVERAGE_TEXT}
use Rattle.node_hits.proofs.sfx_target.put_words.Goals as goal

pub returns : goal.returns
unfolding words_marks
returns c =
    on_ok_weaker c.put_closed.result
    (element_written c.args.out.now.items c.put_opened.new.out.items c.put_statements.new.out.items c.put_closed.new.out.items COVERAGE_TEXT.now COVERAGE_TEXT.now
    (statement_marks c.args.covered.now c.args.embargo.now) c.in_ok-put_opened.ensures c.in_ok-put_statements.ensures)
    c.put_closed.ensures
