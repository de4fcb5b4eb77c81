use Rattle.std.proofs.Common.{◌<◌, ◌≤◌, ◌∙◌, ap, arith, get_or, length, sym}
use Rattle.std.proofs.lemmas.Bool.Decides.{nat_tests}
use Rattle.std.proofs.lemmas.List.{get_or_default}
use Rattle.feed_kbart.specs.Entries.{key_of}
use Rattle.feed_kbart.specs.declared.entry.Entry.{Entry}
use Rattle.feed_kbart.proofs.Merging.{left_merged, right_merged, tested_at_most, tested_less}
use Rattle.feed_kbart.proofs.merge.next_entry.Goals as goal
use Rattle.feed_kbart.proofs.merge.next_entry.Goals.{then-j-right, else-j-right, else-i-left-via-then-i-left+else-key, else-i-left-via-else-i-left}

abbrev any : Entry
any = record { place = 0; number = 0 }

pub returns-then-key-clause-merged : goal.returns-then-key-clause-merged
returns-then-key-clause-merged c merged m =
    let left = c.args.left.now in
    let right = c.args.right.now in
    let i = c.args.at.0 in
    let j = c.args.at.1 in
    left_merged left right i j merged (get_or left i any) c.requires.sorted.0 m c.if-i-left.true (get_or_default left i any (get_or left i any) c.if-i-left.true)
    (λ d more. elim c.if-j-right.branch [
      | then-j-right w ↦ absurd (omega (arith, w.if-j-right.true, more))
      | else-j-right w ↦
          let first : w.key.result ≤ w.key-else-j-right.result = tested_at_most _ _ (sym w.value-is ∙ c.if-key.true) in
          omega (arith, first, w.key.ensures, w.key-else-j-right.ensures, ap key_of (get_or_default right j any d more))
    ])

pub returns-else-i-left-clause-merged : goal.returns-else-i-left-clause-merged
returns-else-i-left-clause-merged c merged m =
    let left = c.args.left.now in
    let right = c.args.right.now in
    let i = c.args.at.0 in
    let j = c.args.at.1 in
    let next = λ (within : j < length right) (first : (d : Entry) → i < length left → key_of (get_or right j any) ≤ key_of (get_or left i d)).
    right_merged left right i j merged (get_or right j any) c.requires.sorted.1 m within (get_or_default right j any (get_or right j any) within) first in
    elim c.else-i-left.branch [
      | else-i-left-via-then-i-left+else-key w ↦ elim w.if-j-right.branch [
        | then-j-right w2 ↦ absurd (grind (arith, nat_tests, w2.if-j-right.true, w2.value-is, w.if-key.false))
        | else-j-right w2 ↦
            let first : w2.key-else-j-right.result < w2.key.result = tested_less _ _ (sym w2.value-is ∙ w.if-key.false) in
            next (omega (arith, c.requires.within, w2.if-j-right.false))
            (λ d more. omega (arith, first, w2.key.ensures, w2.key-else-j-right.ensures, ap key_of (get_or_default left i any d more)))
      ]
      | else-i-left-via-else-i-left w ↦ next (omega (arith, c.requires.some, w.if-i-left.false)) (λ d more. absurd (omega (arith, w.if-i-left.false, more)))
    ]
