use Rattle.std.proofs.Common.{◌<◌, ◌∙◌, ap, arith, get_or, length, sym}
use Rattle.std.proofs.lemmas.List.{get_or_default}
use Rattle.node_site.specs.HoldingsEntries.{is_below}
use Rattle.node_site.specs.declared.entry.Entry.{Entry}
use Rattle.node_site.proofs.Merging.{left_merged, not_both, right_merged}
use Rattle.node_site.proofs.merge.next_entry.Goals as goal

abbrev any : Entry
any = record { hash = 0; start = 0 }

pub returns-then-i-left-clause-merged : goal.returns-then-i-left-clause-merged
returns-then-i-left-clause-merged c merged m =
    let right = c.args.right.now in
    let j = c.args.at.1 in
    let within : j < length right = omega (arith, c.requires.some, c.if-i-left.true) in
    right_merged c.args.text.now c.args.left.now right c.args.at.0 j merged (get_or right j any) c.requires.right m within
    (get_or_default right j any (get_or right j any) within) (λ d more. absurd (omega (arith, c.if-i-left.true, more)))

pub returns-then-j-right-clause-merged : goal.returns-then-j-right-clause-merged
returns-then-j-right-clause-merged c merged m =
    let left = c.args.left.now in
    let i = c.args.at.0 in
    let within : i < length left = omega (arith, c.requires.some, c.if-j-right.true) in
    left_merged c.args.text.now left c.args.right.now i c.args.at.1 merged (get_or left i any) c.requires.left m within
    (get_or_default left i any (get_or left i any) within) (λ d more. absurd (omega (arith, c.if-j-right.true, more)))

pub returns-then-is_below-clause-merged : goal.returns-then-is_below-clause-merged
returns-then-is_below-clause-merged c merged m =
    let text = c.args.text.now in
    let left = c.args.left.now in
    let right = c.args.right.now in
    let i = c.args.at.0 in
    let j = c.args.at.1 in
    let within : j < length right = omega (arith, c.requires.within.1, c.if-j-right.false) in
    right_merged text left right i j merged (get_or right j any) c.requires.right m within (get_or_default right j any (get_or right j any) within)
    (λ d more. ap (λ (e : Entry). is_below text e (get_or right j any)) (get_or_default left i d any more)
    ∙ not_both text (get_or right j any) (get_or left i any) (sym c.is_below.ensures ∙ c.if-is_below.true))

pub returns-else-is_below-clause-merged : goal.returns-else-is_below-clause-merged
returns-else-is_below-clause-merged c merged m =
    let text = c.args.text.now in
    let left = c.args.left.now in
    let right = c.args.right.now in
    let i = c.args.at.0 in
    let j = c.args.at.1 in
    let within : i < length left = omega (arith, c.requires.within.0, c.if-i-left.false) in
    left_merged text left right i j merged (get_or left i any) c.requires.left m within (get_or_default left i any (get_or left i any) within)
    (λ d more. ap (λ (e : Entry). is_below text e (get_or left i any)) (get_or_default right j d any more) ∙ sym c.is_below.ensures ∙ c.if-is_below.false)
