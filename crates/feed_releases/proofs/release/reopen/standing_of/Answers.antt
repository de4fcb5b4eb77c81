use Rattle.std.proofs.Common.{◌≡◌, ℕ, sym, subst, arith}
use Rattle.feed_model.specs.Reply.{missing_below}
use Rattle.feed_model.specs.Content.{byte_in}
use Rattle.feed_model.proofs.Keeps.{none_missing}
use Rattle.feed_releases.specs.Standing.{IsStandingOf}
use Rattle.feed_releases.proofs.Judged.{judged}
use Rattle.feed_releases.proofs.ReadAhead.{if_ok}
use Rattle.feed_releases.proofs.release.reopen.standing_of.Goals as goal

pub returns : goal.returns
returns c =
    let size = c.args.size in
    let parts = c.args.kept.now.parts in
    let none : missing_below (byte_in parts) size ≡ 0 = omega (arith, c.missing.ensures, c.if-missing-gt0.false) in
    let text = c.reader.ensures.text size c.requires ((none_missing (byte_in parts) size).0 none) in
    if_ok c.standing_from.result _ _ c.standing_from.ensures (λ standing is.
    subst (λ (m : ℕ). IsStandingOf size parts m standing) (sym none) (is size parts (judged size parts c.reader.result c.read_parts.result text c.read_parts.ensures)))
