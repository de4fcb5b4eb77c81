use Rattle.std.proofs.lemmas.Result.{on_ok_weaker}
use Rattle.feed_xml.specs.Elements.{leaf}
use Rattle.feed_xml.specs.Marks.{element}
use Rattle.node_hits.specs.Sfx.{embargo_marks}
use Rattle.node_hits.specs.declared.sfx_names.TheConstants.{COVERAGE_STATEMENT, THRESHOLD_TEXT}
use Rattle.node_hits.proofs.SfxSteps.{two_written}
use Rattle.node_hits.proofs.sfx_target.put_statements.Goals as goal

pub returns : goal.returns
returns c =
    on_ok_weaker c.put_embargo.result
    (two_written c.args.out.now.items c.put_statement.new.out.items c.put_embargo.new.out.items
    (element THRESHOLD_TEXT.now THRESHOLD_TEXT.now (leaf COVERAGE_STATEMENT.now c.args.covered.now)) (embargo_marks c.args.embargo.now) c.in_ok-put_statement.ensures)
    c.put_embargo.ensures
