use Rattle.std.proofs.Common.{◌∙◌, sym}
use Rattle.std.proofs.lemmas.Result.{on_ok_weaker}
use Rattle.node_hits.proofs.SfxWritten.{more_written, none_written}
use Rattle.node_hits.proofs.sfx_more.put_more.Goals as goal

pub returns-then-is_empty : goal.returns-then-is_empty
returns-then-is_empty c =
    none_written (λ name. name.now) c.args.site.now c.args.names.now c.args.out.now.items (sym c.is_empty.ensures ∙ c.if-is_empty.true)

pub returns : goal.returns
returns c =
    on_ok_weaker c.put_closed.result
    (more_written (λ name. name.now) c.args.site.now c.args.names.now c.args.out.now.items c.put_opened.new.out.items c.put_named.new.out.items
    c.put_closed.new.out.items (sym c.is_empty.ensures ∙ c.if-is_empty.false) c.in_ok-put_opened.ensures c.in_ok-put_named.ensures)
    c.put_closed.ensures
