use Rattle.std.proofs.Common.{ap, sym, ◌∙◌, arith}
use Rattle.feed_names.specs.ReleaseName.{Name}
use Rattle.feed_model.specs.Change.{is_earlier}
use Rattle.feed_releases.proofs.Dropping.{dropped_all, dropped_none, dropped_one, dropped_start}
use Rattle.feed_releases.proofs.releases.drop_earlier.Goals as goal

pub loop-at-init : goal.loop-at-init
loop-at-init c = dropped_start c.args.name.now c.args.releases.now.items

pub loop-at-preserved-then-is_earlier : goal.loop-at-preserved-then-is_earlier
loop-at-preserved-then-is_earlier c =
    let n = c.args.name.now in
    dropped_one n c.args.releases.now.items c.loop-at.releases.items c.remove.new.self.items c.loop-at.at c.index.result.now c.loop-at.invariant
    (omega (arith, c.len.ensures, c.loop-at-test.true, c.loop-at.releases.ok.0)) c.index.ensures
    (ap (λ (m : Name). is_earlier m n) (sym c.name.ensures) ∙ sym c.is_earlier.ensures ∙ c.if-is_earlier.true) c.remove.ensures.items

pub loop-at-preserved : goal.loop-at-preserved
loop-at-preserved c =
    let n = c.args.name.now in
    dropped_none n c.args.releases.now.items c.loop-at.releases.items c.loop-at.at c.index.result.now c.loop-at.invariant
    (omega (arith, c.len.ensures, c.loop-at-test.true, c.loop-at.releases.ok.0)) c.index.ensures
    (ap (λ (m : Name). is_earlier m n) (sym c.name.ensures) ∙ sym c.is_earlier.ensures ∙ c.if-is_earlier.false)

pub returns-clause-dropped : goal.returns-clause-dropped
returns-clause-dropped c =
    dropped_all c.args.name.now c.args.releases.now.items c.loop-at.releases.items c.loop-at.at c.loop-at.invariant
    (omega (arith, c.len.ensures, c.loop-at-test.false, c.loop-at.releases.ok.0))

pub returns-clause-fewer : goal.returns-clause-fewer
returns-clause-fewer c = c.loop-at.invariant.fewer
