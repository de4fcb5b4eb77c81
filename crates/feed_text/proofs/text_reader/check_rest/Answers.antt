use Rattle.std.proofs.Common.{◌≡◌, ◌≤◌, ◌<◌, ◌+◌, ◌-◌, ◌∙◌, ap, arith, drop, length, length-take-le, refl, rules, subst, sym, take, take_at}
use Rattle.std.specs.Io.KnownBytes.{Consumes}
use Rattle.feed_limits.specs.Limits.{file_limit}
use Rattle.feed_text.proofs.Readings.{at_end, never_read, read_more, read_over, read_whole}
use Rattle.feed_text.proofs.text_reader.check_rest.Goals as goal

pub returns-in-Ok-eq0-clause-checked : goal.returns-in-Ok-eq0-clause-checked
returns-in-Ok-eq0-clause-checked g c given was =
    let some : 0 < length c.read.new.buf = omega (arith, c.loop-check.invariant.some) in
    let last = rw c.in-Ok-eq0.field-0-test at c.in-Ok-eq0.ensures.bytes in
    let none = at_end (g.R.Read.remaining c.loop-check.reader.reader) (g.R.Read.remaining c.read.new.self.reader) last.0 (last.1 refl some) in
    read_whole given _ c.loop-check.check _ (c.loop-check.invariant.read given was) none c.finish.ensures.checked

pub returns-in-Ok-eq0-clause-cause : goal.returns-in-Ok-eq0-clause-cause
returns-in-Ok-eq0-clause-cause g c read = absurd (never_read c.finish.result c.finish.ensures.fault read)

pub loop-check-smaller : goal.loop-check-smaller
loop-check-smaller g c =
    let count = c.in-Ok.count in
    let bytes = c.deref.result.now in
    let within : count ≤ length bytes = omega (arith, c.in-Ok.ensures.bound.0, ap length c.deref.ensures.value) in
    let size : length (take count bytes) ≡ count = length-take-le count bytes within in
    let some : 0 < count = omega (arith, c.in-Ok.count-test) in
    let more : c.feed.new.self.total ≡ c.loop-check.check.total + count = c.feed.ensures.total ∙ ap (λ n. c.loop-check.check.total + n) size in
    let less : file_limit + 1 - c.feed.new.self.total < file_limit + 1 - c.loop-check.check.total = omega (arith, more, some, c.loop-check-test.true) in
    less

pub loop-check-preserved : goal.loop-check-preserved
loop-check-preserved g c = record {
  some = c.loop-check.invariant.some;
  read = λ given was.
      let block = c.loop-check.block in
      let filled : length c.read.new.buf ≡ block.len = search rules in
      let all = take_at c.read.new.buf (drop (length c.read.new.buf) block.items) block.len filled in
      let value : c.deref.result.now ≡ c.read.new.buf = c.deref.ensures.value ∙ all in
      let come = subst (Consumes _ _) (ap (take c.in-Ok.count) (sym value)) c.in-Ok.ensures.bytes.0 in
      read_more given _ _ _ _ _ (c.loop-check.invariant.read given was) come c.feed.ensures.checked;
  going = rw c.in-Ok.is at c.read.ensures.same ∙ c.loop-check.invariant.going;
}

pub returns-clause-checked : goal.returns-clause-checked
returns-clause-checked g c given was = read_over given _ _ (c.loop-check.invariant.read given was) (omega (arith, c.loop-check-test.false))
