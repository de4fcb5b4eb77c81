use Rattle.std.proofs.Common.{◌∙◌, [], ap, get_or, string_bytes}
use Rattle.std.specs.Prelude.{fold}
use Rattle.std.proofs.lemmas.List.{get_or_default}
use Rattle.feed_openurl.specs.Shown.{with_byte, with_char}
use Rattle.feed_openurl.proofs.Steps.{fold_next}
use Rattle.feed_openurl.proofs.shown.show_bytes.Goals as goal

pub loop-byte-preserved : goal.loop-byte-preserved
loop-byte-preserved c =
    let value = c.args.value.now in
    let i = c.loop-byte.byte-index in
    let byte = get_or value i 0 in
    fold_next with_byte value i byte (string_bytes c.loop-byte.shown) (string_bytes c.push_shown.new.text) (fold with_byte [] value) c.loop-byte-test.true
    (get_or_default value i 0 byte c.loop-byte-test.true)
    (c.in_ok-push_shown.ensures ∙ ap (with_char (string_bytes c.loop-byte.shown)) c.windows_1252.ensures) c.loop-byte.invariant
