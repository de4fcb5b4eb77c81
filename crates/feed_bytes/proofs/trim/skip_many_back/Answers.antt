use Rattle.std.proofs.Common.{◌≡◌, ◌++◌, ◌-◌, ◌∙◌, ap, drop, length, replicate, reverse, sym, take-append-drop}
use Rattle.std.proofs.lemmas.List.{reverse-append}
use Rattle.feed_bytes.specs.Trim.{skip_spaces}
use Rattle.feed_bytes.proofs.trim.skip_many_back.Goals as goal

pub loop-front-preserved : goal.loop-front-preserved
loop-front-preserved c =
    let rest = c.loop-front.rest.now in
    let front = c.in-Some.front.now in
    let parts = c.in-Some.ensures.cases in
    let whole : rest ≡ front ++ replicate 8 32 =
    sym (take-append-drop (length rest - 8) rest) ∙ ap (λ l. l ++ drop (length rest - 8) rest) (sym parts.0) ∙ ap (λ l. front ++ l) (sym parts.1 ∙ c.if-not-is_word.ensures) in
    sym (ap (λ t. reverse (skip_spaces t)) (ap reverse whole ∙ reverse-append front (replicate 8 32))) ∙ c.loop-front.invariant
