use Rattle.std.proofs.Common.{◌≤◌, ◌++◌, arith, length}
use Rattle.std.proofs.lemmas.List.{length-append}
use Rattle.feed_limits.specs.Limits.{file_limit}
use Rattle.feed_kbart.proofs.list_check.ListCheck.step.Goals as goal

pub returns : goal.returns
returns c text was =
    let bytes = c.args.bytes.now in
    let checked = c.feed.ensures.checked text was.checked in
    let small : length (text ++ bytes) ≤ file_limit = omega (arith, checked.size, c.if-bytes_seen-gt-FILE_LIMIT.false) in
    record { checked = checked; list = c.in_ok-add.ensures text (omega (arith, small, length-append text bytes)) was.list }
