use Rattle.std.proofs.Common.{◌≡◌, ◌++◌, ◌+◌, ◌∙◌, ap, append_assoc, drop, replicate, sym, take-append-drop}
use Rattle.std.proofs.lemmas.List.{replicate-append-replicate}
use Rattle.feed_bytes.proofs.trim.skip_many.Goals as goal

pub loop-bytes-preserved : goal.loop-bytes-preserved
loop-bytes-preserved c byte made =
    let rest = c.loop-bytes.rest.now in
    let tail = c.in-Some.tail.now in
    let parts = c.in-Some.ensures.cases in
    let next : rest ≡ replicate 8 byte ++ tail =
    sym (take-append-drop 8 rest) ∙ ap (λ l. l ++ drop 8 rest) (sym parts.0 ∙ c.if-not-is_word.ensures ∙ made) ∙ ap (λ l. replicate 8 byte ++ l) (sym parts.1) in
    let (count, whole) = c.loop-bytes.invariant byte made in
    (count + 8, whole ∙ ap (λ l. replicate count byte ++ l) next ∙ sym (append_assoc (replicate count byte) (replicate 8 byte) tail) ∙ ap (λ l. l ++ tail) (replicate-append-replicate count 8 byte))
