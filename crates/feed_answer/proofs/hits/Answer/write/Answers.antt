use Rattle.std.proofs.Common.{◌≡◌, ◌≤◌, ◌<◌, ◌∙◌, ap, arith, length, map, sym, subst}
use Rattle.std.specs.Io.KnownBytes.{Appends}
use Rattle.feed_names.specs.ReleaseName.{text_of}
use Rattle.feed_answer.specs.Answers.{head_line, hit_line}
use Rattle.feed_answer.specs.HitValue.{hit_of}
use Rattle.feed_answer.proofs.Lines.{answer_written, head_written}
use Rattle.feed_answer.proofs.Writing.{appends_item, appends_same}
use Rattle.feed_answer.proofs.hits.Answer.write.Goals as goal

pub loop-hit-init : goal.loop-hit-init
loop-hit-init g c =
    let count : c.len.result ≡ length c.deref-hit-items.result.now = c.len.ensures ∙ sym c.deref-hit-items.ensures.len in
    appends_same (g.W.Write.contents c.args.out.now) (g.W.Write.contents c.write_head.new.out) _ _
    (head_written (text_of c.args.name.now) c.len.result c.deref-hit-items.result.now count) c.in_ok-write_head.ensures

pub loop-hit-preserved : goal.loop-hit-preserved
loop-hit-preserved g c =
    let within : c.loop-hit.hit-index < length c.deref-hit-items.result.now = omega arith in
    appends_item (λ hit. hit_line (hit_of hit)) (g.W.Write.contents c.args.out.now) (g.W.Write.contents c.loop-hit.out) (g.W.Write.contents c.write_hit.new.out)
    (head_line (text_of c.args.name.now) (length c.deref-hit-items.result.now))
    c.deref-hit-items.result.now c.loop-hit.hit-index c.hit-item.result within c.loop-hit.invariant
    (subst (λ hit. Appends (g.W.Write.contents c.loop-hit.out) (g.W.Write.contents c.write_hit.new.out) (hit_line (hit_of hit))) c.hit-item.is c.in_ok-write_hit.ensures)

pub returns : goal.returns
returns g c =
    let all : length c.deref-hit-items.result.now ≤ c.loop-hit.hit-index = omega arith in
    appends_same (g.W.Write.contents c.args.out.now) (g.W.Write.contents c.loop-hit.out) _ _
    (answer_written (text_of c.args.name.now) c.deref-hit-items.result.now c.args.self.now c.loop-hit.hit-index all
    (ap (map hit_of) c.deref-hit-items.ensures.value ∙ c.self.view_is))
    c.loop-hit.invariant
