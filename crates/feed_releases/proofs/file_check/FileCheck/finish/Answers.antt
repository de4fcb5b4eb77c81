use Rattle.std.proofs.Common.{ℕ, subst, sym}
use Rattle.feed_model.specs.Content.{IsText}
use Rattle.feed_releases.proofs.file_check.FileCheck.finish.Goals as goal

pub returns : goal.returns
returns c parts text union is =
    c.finish_whole.ensures parts text (c.in-Some.ensures parts union) (subst (λ (n : ℕ). IsText n parts text) (sym c.if-running-size.false) is)
