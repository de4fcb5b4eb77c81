use Rattle.std.proofs.Common.{◌≡◌, ◌<◌, ◌∙◌, arith, drop, length, rules, take_at}
use Rattle.feed_kbart.proofs.Lists.{listed_block, listed_none, listed_size, listed_whole}
use Rattle.feed_kbart.proofs.file.read_list.Goals as goal

pub loop-total-init : goal.loop-total-init
loop-total-init g c = record { some = search rules; listed = listed_none g.K.KeepRows.keeps (g.R.Read.remaining c.args.reader.now) c.new-list.result c.new-list.ensures }

pub loop-total-preserved : goal.loop-total-preserved
loop-total-preserved g c = record {
  some = c.in_ok-block-2.ensures;
  listed =
      let read = c.fill.new.block in
      let filled : length read ≡ c.loop-total.block.len = search rules in
      listed_block g.K.KeepRows.keeps _ _ _ c.loop-total.total c.in_ok-count.count read c.deref.result.now _ _ c.loop-total.invariant.listed
      c.in_ok-count.ensures.bytes c.in_ok-count.ensures.within (c.deref.ensures.value ∙ take_at read (drop (length read) c.loop-total.block.items) c.loop-total.block.len filled) c.in_ok-add.ensures;
}

pub returns-then-total-le-FILE_LIMIT : goal.returns-then-total-le-FILE_LIMIT
returns-then-total-le-FILE_LIMIT g c text is small =
    let keeps = g.K.KeepRows.keeps in
    let read = c.fill.new.block in
    let filled : length read ≡ c.loop-total.block.len = search rules in
    let listed = listed_block keeps _ _ _ c.loop-total.total c.in_ok-count.count read c.deref.result.now _ _ c.loop-total.invariant.listed
    c.in_ok-count.ensures.bytes c.in_ok-count.ensures.within (c.deref.ensures.value ∙ take_at read (drop (length read) c.loop-total.block.items) c.loop-total.block.len filled) c.in_ok-add.ensures in
    let few : c.in_ok-count.count < length read = omega (arith, c.if-count-len.true, c.len.ensures, filled) in
    c.finish.ensures text small (listed_whole keeps text _ _ c.add.new.self (rw is at listed) (c.in_ok-count.ensures.end few) small)

pub returns-else-total-le-FILE_LIMIT : goal.returns-else-total-le-FILE_LIMIT
returns-else-total-le-FILE_LIMIT g c text is small =
    let keeps = g.K.KeepRows.keeps in
    let read = c.fill.new.block in
    let filled : length read ≡ c.loop-total.block.len = search rules in
    let listed = listed_block keeps _ _ _ c.loop-total.total c.in_ok-count.count read c.deref.result.now _ _ c.loop-total.invariant.listed
    c.in_ok-count.ensures.bytes c.in_ok-count.ensures.within (c.deref.ensures.value ∙ take_at read (drop (length read) c.loop-total.block.items) c.loop-total.block.len filled) c.in_ok-add.ensures in
    absurd (omega (arith, small, c.if-total-le-FILE_LIMIT.false, listed_size keeps text _ _ c.add.new.self (rw is at listed)))

pub returns : goal.returns
returns g c text is small =
    absurd (omega (arith, small, c.loop-total-test.false, listed_size g.K.KeepRows.keeps text _ c.loop-total.total c.loop-total.list (rw is at c.loop-total.invariant.listed)))
