use Rattle.std.proofs.Common.{Bool, sym, ap, ◌∙◌}
use Rattle.std.specs.Prelude.{◌||◌}
use Rattle.node_service.proofs.responder.is_streamed.Goals as goal

pub returns-then-begins : goal.returns-then-begins
returns-then-begins c = λ begins. (
  c.args.begins,
  c.reads_folder-reads.result,
  begins,
  c.reads_folder-reads.ensures,
  c.if-begins.true ∙ sym (ap (λ (b : Bool). b || c.reads_folder-reads.result) c.if-begins.true),
)

pub returns-else-begins : goal.returns-else-begins
returns-else-begins c = λ begins.
    (c.args.begins, c.reads_folder-reads.result, begins, c.reads_folder-reads.ensures, sym (ap (λ (b : Bool). b || c.reads_folder-reads.result) c.if-begins.false))
