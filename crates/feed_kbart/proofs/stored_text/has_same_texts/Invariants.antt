use Rattle.std.proofs.Common.{◌≡◌, ◌↔◌, ◌-◌}
use Rattle.feed_kbart.specs.Stored.{texts_in}
use Rattle.feed_kbart.proofs.stored_text.has_same_texts.Given as goal

-- the texts that are left are the same exactly if all are
abbrev pub invariant-loop-compared : goal.invariant-loop-compared
invariant-loop-compared l =
    (texts_in (l.count - l._compared) l.left ≡ texts_in (l.count - l._compared) l.right) ↔ (texts_in l.count l.one ≡ texts_in l.count l.other)
