use Rattle.std.proofs.Common.{◌∷◌, [], sym, ap, ◌∙◌, map-id}
use Rattle.std.specs.Prelude.{fold}
use Rattle.std.proofs.lemmas.Iterator.{YieldsList-from_chars}
use Rattle.std.proofs.lemmas.Iterator.Consumers.{YieldsList-end}
use Rattle.std.proofs.lemmas.List.Sums.{fold-append}
use Rattle.feed_openurl.specs.Shown.{with_char}
use Rattle.feed_openurl.proofs.shown.show_text.Goals as goal

pub returns : goal.returns
returns c =
    let end = YieldsList-end (YieldsList-from_chars c.args.text.now c.utf8.text cc) c.loop-c.yielded _ c.loop-c.yielded_by _ _ c.in-None.is c.next.ensures.steps in
    c.loop-c.invariant ∙ ap (fold with_char []) (sym (map-id c.loop-c.yielded) ∙ end.0)

pub loop-c-preserved : goal.loop-c-preserved
loop-c-preserved c =
    c.in_ok-push_shown.ensures ∙ ap (λ t. with_char t c.in-Some.c) c.loop-c.invariant ∙ sym (fold-append with_char [] c.loop-c.yielded (c.in-Some.c ∷ []))
