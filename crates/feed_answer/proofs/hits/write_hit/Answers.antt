use Rattle.std.proofs.Common.{◌≡◌, ◌<◌, arith}
use Rattle.std.proofs.lemmas.Result.{on_ok_weaker}
use Rattle.feed_answer.specs.Answers.{after_tab}
use Rattle.feed_answer.proofs.Lines.{hit_written}
use Rattle.feed_answer.proofs.Writing.{appends_item, appends_more, appends_same}
use Rattle.feed_answer.proofs.hits.write_hit.Goals as goal

pub loop-text-preserved : goal.loop-text-preserved
loop-text-preserved g c =
    let within : c.loop-text.text-index < 6 = omega arith in
    appends_item (λ text. after_tab text.now) _ (g.W.Write.contents c.loop-text.out) _ _ _ c.loop-text.text-index _ within c.loop-text.invariant c.in_ok-write_text.ensures

pub returns : goal.returns
returns g c =
    let all : c.loop-text.text-index ≡ 6 = omega arith in
    let cells = c.cells-cells.result in
    let is = c.cells-cells.ensures in
    on_ok_weaker c.write_all.result
    (λ written. appends_same (g.W.Write.contents c.args.out.now) (g.W.Write.contents c.write_all.new.self) _ _
    (hit_written (record { row = c.args.row.now; grade = c.args.grade }) c.number-number.result c.loop-text.text-index
    cells.publication_title cells.title_url cells.title_id cells.coverage_depth cells.embargo_info cells.access_type
    all c.number-number.ensures is.title is.url is.title_id is.depth is.embargo is.access)
    (appends_more (g.W.Write.contents c.args.out.now) (g.W.Write.contents c.loop-text.out) (g.W.Write.contents c.write_all.new.self) _ _ c.loop-text.invariant written))
    c.write_all.ensures.bytes
