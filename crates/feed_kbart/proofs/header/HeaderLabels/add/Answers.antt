use Rattle.std.proofs.Common.{◌≡◌, ◌∙◌, [], arith, rules, length, sym, slice_index_or}
use Rattle.std.proofs.lemmas.List.Edits.{map_over_more}
use Rattle.std.proofs.lemmas.List.{get_or_default}
use Rattle.feed_bytes.specs.Trim.{trimmed}
use Rattle.feed_kbart.specs.Labels.{label_count}
use Rattle.feed_kbart.specs.HeaderLabels.{found_of, with_field}
use Rattle.feed_kbart.specs.declared.label.Label.TheVariants as label
use Rattle.feed_kbart.proofs.Headers.{labels-blank, labels-more, nil_of}
use Rattle.feed_kbart.proofs.header.HeaderLabels.add.Goals as goal

pub returns-then-is_empty : goal.returns-then-is_empty
returns-then-is_empty c header here labels =
    let blank : trimmed c.args.field.now ≡ [] = sym c.trim_spaces-text.ensures ∙ nil_of c.trim_spaces-text.result.now (sym c.is_empty.ensures ∙ c.if-is_empty.true) in
    labels-blank header c.args.field.now c.args.self.now blank labels

pub loop-index-preserved : goal.loop-index-preserved
loop-index-preserved c =
    let old = slice_index_or c.loop-index.self.found c.loop-index.index (found_of [] label.PublicationTitle) in
    let was : length c.args.self.now.found ≡ label_count = search rules in
    let is : length c.loop-index.self.found ≡ label_count = search rules in
    rw (c.with_field.ensures c.args.field.now c.trim_spaces-text.ensures)
    (map_over_more (with_field c.args.place c.args.field.now) c.args.self.now.found c.loop-index.self.found c.loop-index.index old
    (omega (arith, was, c.loop-index-test.true)) c.loop-index.invariant
    (get_or_default c.loop-index.self.found c.loop-index.index (found_of [] label.PublicationTitle) old (omega (arith, is, c.loop-index-test.true))))

pub returns : goal.returns
returns c header here labels =
    labels-more header c.args.field.now c.args.place c.loop-index.index c.args.self.now c.loop-index.self here (omega (arith, c.loop-index-test.false, c.loop-index.auto.index-end))
    c.loop-index.invariant labels
