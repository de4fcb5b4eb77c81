use Rattle.std.proofs.Common.{◌+◌, ◌++◌, ◌&&◌, sym, ◌∙◌, drop}
use Rattle.std.specs.List.{count_by, list_all}
use Rattle.std.proofs.lemmas.List.{at_drop_more}
use Rattle.node_links.specs.Articles.{is_given_or_row, is_row_name}
use Rattle.node_links.specs.Requests.{filled_from, names_from}
use Rattle.node_links.proofs.filling.Filling.of.Goals as goal

pub loop-byte-preserved : goal.loop-byte-preserved
loop-byte-preserved c = (
  c.in_ok-add.ensures.link (drop (c.loop-byte.byte-index + 1) c.args.template.now)
      ∙ sym (at_drop_more (λ rest. c.loop-byte.filling.link.items ++ filled_from c.args.cited.now c.loop-byte.filling.is_open c.loop-byte.filling.name.items rest)
      c.args.template.now c.loop-byte.byte-index 0 c.loop-byte-test.true)
      ∙ c.loop-byte.invariant.0,
  c.in_ok-add.ensures.whole (drop (c.loop-byte.byte-index + 1) c.args.template.now)
      ∙ sym (at_drop_more (λ rest. c.loop-byte.filling.is_whole && list_all (is_given_or_row c.args.cited.now) (names_from c.loop-byte.filling.is_open c.loop-byte.filling.name.items rest))
      c.args.template.now c.loop-byte.byte-index 0 c.loop-byte-test.true)
      ∙ c.loop-byte.invariant.1,
  c.in_ok-add.ensures.row (drop (c.loop-byte.byte-index + 1) c.args.template.now)
      ∙ sym (at_drop_more (λ rest. c.loop-byte.filling.row_names + count_by is_row_name (names_from c.loop-byte.filling.is_open c.loop-byte.filling.name.items rest))
      c.args.template.now c.loop-byte.byte-index 0 c.loop-byte-test.true)
      ∙ c.loop-byte.invariant.2,
)
