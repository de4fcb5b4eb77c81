use Rattle.std.proofs.Common.{◌∙◌, sym, ap, arith, rules}
use Rattle.feed_identifiers.specs.Issn.{issn_of_characters}
use Rattle.feed_identifiers.proofs.PrintedIssn.{eight_parse, nine_parse}
use Rattle.feed_identifiers.proofs.issn.Issn.parse.Goals as goal

pub returns-in-len8 : goal.returns-in-len8
returns-in-len8 c =
    c.of_digits.ensures ∙ sym (eight_parse c.trim_spaces-text.result.now (let low = c.in-len8.len_at_least in let high = c.in-len8.len_below in omega (arith, low, high)))
    ∙ ap issn_of_characters c.trim_spaces-text.ensures

pub returns-in-45 : goal.returns-in-45
returns-in-45 c =
    c.of_digits-in-45.ensures ∙ sym (nine_parse c.trim_spaces-text.result.now (let low = c.in-45.len_at_least in let high = c.in-45.len_below in omega (arith, low, high)) (search rules))
    ∙ ap issn_of_characters c.trim_spaces-text.ensures
