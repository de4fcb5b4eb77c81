use Rattle.std.proofs.Common.{◌∙◌, ap, refl, sym}
use Rattle.feed_bytes.specs.Trim.{skip_spaces}
use Rattle.feed_bytes.proofs.Skipped.{spaces-skipped}
use Rattle.feed_bytes.proofs.trim.trim_spaces_start.Goals as goal

pub loop-tail-init : goal.loop-tail-init
loop-tail-init c =
    let (count, whole) = c.skip_many-rest.ensures 32 refl in
    sym (ap skip_spaces whole ∙ spaces-skipped count c.skip_many-rest.result.now)
