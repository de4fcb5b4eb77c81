use Rattle.std.proofs.Common.{get_or, refl, sym, ◌∙◌}
use Rattle.std.specs.List.{filter_map}
use Rattle.std.proofs.lemmas.List.{get_or_default}
use Rattle.feed_openurl.specs.Plain.{plain_windows}
use Rattle.feed_openurl.proofs.Steps.{kept_next, left_next}
use Rattle.feed_openurl.proofs.plain.plain_bytes.Goals as goal
use Rattle.feed_openurl.proofs.plain.plain_bytes.Goals.{in-Some+in_ok-push, in_default}

pub loop-byte-preserved : goal.loop-byte-preserved
loop-byte-preserved c =
    let byte = get_or c.args.value.now c.loop-byte.byte-index 0 in
    let all = filter_map plain_windows c.args.value.now in
    elim c.match-plain_windows.branch [
      | in-Some+in_ok-push w ↦
          kept_next plain_windows c.args.value.now c.loop-byte.byte-index byte c.loop-byte.bytes.items c.match-plain_windows.bytes.items all
          w.in-Some.byte c.loop-byte-test.true (get_or_default c.args.value.now c.loop-byte.byte-index 0 byte c.loop-byte-test.true)
          (sym c.plain_windows.ensures ∙ w.in-Some.is) (rw w.bytes-is w.in_ok-push.ensures.items) c.loop-byte.invariant
      | in_default w ↦
          left_next plain_windows c.args.value.now c.loop-byte.byte-index byte c.loop-byte.bytes.items c.match-plain_windows.bytes.items all
          c.loop-byte-test.true (get_or_default c.args.value.now c.loop-byte.byte-index 0 byte c.loop-byte-test.true)
          (sym c.plain_windows.ensures ∙ w.in_default.is) (rw w.bytes-is refl) c.loop-byte.invariant
    ]
