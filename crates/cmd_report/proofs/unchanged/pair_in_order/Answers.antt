use Rattle.std.proofs.Common.{◌≡◌, ◌++◌, ◌-◌, ◌+◌, ◌∷◌, [], drop, length, take, refl, rules, arith, subst, sym}
use Rattle.std.proofs.lemmas.List.{take_all}
use Rattle.feed_kbart.specs.RowValue.{content}
use Rattle.cmd_report.specs.Pairing.{IsAt}
use Rattle.cmd_report.specs.declared.comparison.RowChange.{RowChange}
use Rattle.cmd_report.specs.declared.order.By.TheVariants.{Content}
use Rattle.cmd_report.proofs.Alike.{tied_content}
use Rattle.cmd_report.proofs.Merging.{ArePairedSoFar, all_paired, both_paired, news_left, olds_left, parts_taken, taken}
use Rattle.cmd_report.proofs.unchanged.pair_in_order.Goals as goal
use Rattle.cmd_report.proofs.unchanged.pair_in_order.Goals.{in-Some+in_ok-add_rows-in-Some+in_ok-push-in-Some, in-None+in_ok-add_row-in-None}

pub loop-row-preserved : goal.loop-row-preserved
loop-row-preserved c =
    let old = c.args.old.now in
    let new = c.args.new.now in
    let i = c.loop-row.row-index in
    let j = c.loop-row.next in
    let pairs = c.loop-row.pairs.items in
    let left_old = c.loop-row.left_old.items in
    let left_new = c.loop-row.left_new.items in
    let here : IsAt old i c.row-item.result = search rules in
    elim c.match-place_of.branch [
      | in-Some+in_ok-add_rows-in-Some+in_ok-push-in-Some w ↦
          let k = w.in-Some.place in
          let pair : RowChange = record { old = c.row-item.result; new = w.index-new-place.result } in
          let there : IsAt new k w.index-new-place.result = search rules in
          let same : content pair.old.now ≡ content pair.new.now = subst (λ row. content pair.old.now ≡ content row.now) (sym there.1) (w.in-Some.ensures.equal pair.new) in
          let between = take (k - j) (drop j new) in
          let skipped : ArePairedSoFar Content (take i old) (take k new) pairs left_old (left_new ++ between) =
          news_left Content (take i old) (take j new) pairs left_old left_new c.loop-row.invariant.1 between (take k new) (parts_taken new j k w.in-Some.ensures.within.0) in
          let both : ArePairedSoFar Content (take (i + 1) old) (take (k + 1) new) (pairs ++ pair ∷ []) left_old (left_new ++ between) =
          both_paired Content (take i old) (take k new) pairs left_old (left_new ++ between) skipped pair (take (i + 1) old) (take (k + 1) new)
          (taken old i pair.old here.0 here.1) (taken new k pair.new there.0 there.1) (tied_content pair.old.now pair.new.now same) in
          rw (w.pairs-is, w.left_old-is, w.left_new-is, w.next-is, w.in_ok-push-in-Some.ensures.items, w.in_ok-add_rows-in-Some.ensures)
          (omega (arith, w.in-Some.ensures.within.1), both)
      | in-None+in_ok-add_row-in-None w ↦
          let row = c.row-item.result in
          let one : ArePairedSoFar Content (take (i + 1) old) (take j new) pairs (left_old ++ row ∷ []) left_new =
          olds_left Content (take i old) (take j new) pairs left_old left_new c.loop-row.invariant.1 (row ∷ []) (take (i + 1) old) (taken old i row here.0 here.1) in
          rw (w.pairs-is, w.left_old-is, w.left_new-is, w.next-is, w.in_ok-add_row-in-None.ensures) (c.loop-row.invariant.0, one)
    ]

pub returns : goal.returns
returns c =
    let old = c.args.old.now in
    let new = c.args.new.now in
    let i = c.loop-row.row-index in
    let j = c.loop-row.next in
    let pairs = c.loop-row.pairs.items in
    let left_old = c.loop-row.left_old.items in
    let left_new = c.loop-row.left_new.items in
    let rest = take (length new - j) (drop j new) in
    all_paired Content (take i old) (take (length new) new) pairs left_old (left_new ++ rest)
    (news_left Content (take i old) (take j new) pairs left_old left_new c.loop-row.invariant.1 rest (take (length new) new) (parts_taken new j (length new) c.loop-row.invariant.0))
    old new (take_all i old (omega (arith, c.loop-row-test.false))) (take_all (length new) new (omega arith)) _ refl refl c.in_ok-add_rows.ensures
