use Rattle.std.proofs.Common.{◌≡◌, IsUtf8, arith, length, le_refl, refl, subst, sym, take, take_all}
use Rattle.feed_text.proofs.Utf8Texts.{IsSpoiled-past, StandsFor-end}
use Rattle.feed_text.proofs.utf8.count_to_keep.Goals as goal

pub returns-in-Ok-clause-spoiled : goal.returns-in-Ok-clause-spoiled
returns-in-Ok-clause-spoiled c =
    let bytes = c.args.bytes.now in
    let all : take (length bytes) bytes ≡ bytes = take_all (length bytes) bytes (le_refl _) in
    StandsFor-end bytes 0 (length bytes) (subst IsUtf8 (sym all) c.in-Ok.ensures.cases.1) (le_refl _) (omega arith)

pub returns-then-count-le-KEPT-clause-spoiled : goal.returns-then-count-le-KEPT-clause-spoiled
returns-then-count-le-KEPT-clause-spoiled c =
    let valid = rw (← c.valid_up_to.ensures) at c.in-Err.ensures.cases.1 in
    StandsFor-end c.args.bytes.now _ c.valid_up_to.result valid.front (omega (arith, valid.short)) refl

pub returns-else-count-le-KEPT-clause-spoiled : goal.returns-else-count-le-KEPT-clause-spoiled
returns-else-count-le-KEPT-clause-spoiled c =
    let valid = rw (← c.valid_up_to.ensures) at c.in-Err.ensures.cases.1 in
    IsSpoiled-past c.args.bytes.now c.valid_up_to.result valid c.if-count-le-KEPT.false
