use Rattle.std.proofs.Common.{◌≡◌, ◌∙◌, not, eqb, sym, ap, ap₂, arith}
use Rattle.std.proofs.lemmas.Bool.{not-true, not-false, ltb-true}
use Rattle.std.specs.Cmp.Lexicographic.{pointwise}
use Rattle.feed_parts.specs.Shown.{shown_part}
use Rattle.feed_parts.specs.Cut.{cut}
use Rattle.feed_parts.proofs.Agreed.{cut_differs, cut_agrees, apart_agrees}
use Rattle.feed_parts.proofs.overlap.differs.Goals as goal

pub returns-then-low-high : goal.returns-then-low-high
returns-then-low-high c =
    let part = shown_part c.args.part.now in
    let low = c.max-low.result in
    let high = c.min-high.result in
    let xs = (cut part.first part.bytes low high).bytes in
    let ys = (cut c.args.first c.args.bytes.now low high).bytes in
    let same = ap (λ bytes. (cut part.first bytes low high).bytes) c.deref.ensures.value in
    let is : c.ne.result ≡ not (pointwise eqb xs ys) = c.ne.ensures ∙ ap₂ (λ us vs. not (pointwise eqb us vs)) (c.slice_at.ensures ∙ same) c.slice_at-then-low-high.ensures in
    record {
      differs = λ t. cut_differs part c.args.first c.args.bytes.now low high (omega arith) (omega arith) (omega (arith, c.args.part.now.bytes.ok.0)) (omega arith) c.if-low-high.true
          (not-true _ (sym is ∙ t));
      agrees = λ e. cut_agrees part c.args.first c.args.bytes.now low high (omega arith) (omega arith) (omega (arith, c.args.part.now.bytes.ok.0)) (omega arith)
          (not-false _ (sym is ∙ e)) (λ place a b f g. (omega arith, omega (arith, c.args.part.now.bytes.ok.0)));
    }

pub returns-else-low-high : goal.returns-else-low-high
returns-else-low-high c = record {
  differs = λ t. absurd (omega (arith, ltb-true c.max-low.result c.min-high.result t));
  agrees = λ e. apart_agrees (shown_part c.args.part.now) c.args.first c.args.bytes.now (λ place a b f g. omega (arith, c.args.part.now.bytes.ok.0));
}
