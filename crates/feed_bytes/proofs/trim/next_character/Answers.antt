use Rattle.std.proofs.Common.{◌∙◌, ap, arith, length, length-append, refl, replicate, sym}
use Rattle.std.specs.List.{filter}
use Rattle.feed_bytes.specs.Trim.{is_no_hyphen}
use Rattle.feed_bytes.proofs.Skipped.{hyphens-skipped}
use Rattle.feed_bytes.proofs.trim.next_character.Goals as goal

pub loop-character-init : goal.loop-character-init
loop-character-init c =
    let rest = c.skip_many-rest.result.now in
    let (count, whole) = c.skip_many-rest.ensures 45 refl in
    record {
      same = sym (ap (filter is_no_hyphen) whole ∙ hyphens-skipped count rest);
      within = omega (arith, ap length whole, length-append (replicate count 45) rest);
    }
