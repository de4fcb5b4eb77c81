use Rattle.std.proofs.Common.{sym, ◌∙◌, ap, option_map}
use Rattle.feed_core.proofs.shelf.Shelf.file_of.Goals as goal

pub returns-in-Some : goal.returns-in-Some
returns-in-Some c shelf is = is c.args.name.now c.text.result c.text.ensures.name ∙ ap (option_map (λ f. f.now)) (sym c.in-Some.ensures.value)

pub returns-in-None : goal.returns-in-None
returns-in-None c shelf is = is c.args.name.now c.text.result c.text.ensures.name ∙ ap (option_map (λ f. f.now)) (sym c.in-None.ensures.value)
