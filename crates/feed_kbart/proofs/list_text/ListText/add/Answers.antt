use Rattle.std.proofs.Common.{◌≡◌, ◌++◌, arith, length, rules}
use Rattle.feed_kbart.proofs.list_text.ListText.add.Goals as goal

pub loop-alloc-preserved : goal.loop-alloc-preserved
loop-alloc-preserved g c text is =
    let size : c.len.result ≡ length c.loop-alloc.self.held.items = search rules in
    c.in_ok-read_held.ensures.text text (omega (arith, size, c.loop-alloc-test.true)) (c.loop-alloc.invariant text is)

pub loop-alloc-smaller : goal.loop-alloc-smaller
loop-alloc-smaller g c =
    let size : c.len.result ≡ length c.loop-alloc.self.held.items = search rules in
    c.in_ok-read_held.ensures.fewer (omega (arith, size, c.loop-alloc-test.true))

pub returns : goal.returns
returns g c text small was = c.loop-alloc.invariant (text ++ c.args.bytes.now) (c.in_ok-hold.ensures text small was)
