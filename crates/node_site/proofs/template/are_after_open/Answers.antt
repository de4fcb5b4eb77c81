use Rattle.std.proofs.Common.{rules}
use borrow.Author.Tests.{tests}
use Rattle.std.proofs.lemmas.Iterator.Adapters.{YieldsList-from_skip}
use Rattle.std.proofs.lemmas.Iterator.Consumers.{YieldsList-at}
use Rattle.std.proofs.lemmas.Iterator.Search.{all_from_yields_List}
use Rattle.std.proofs.lemmas.Iterator.Splits.{YieldsList-from_slice_split}
use Rattle.node_site.specs.Kinds.{is_after_open}
use Rattle.node_site.proofs.template.are_after_open.Goals as goal

pub returns : goal.returns
returns c =
    all_from_yields_List (is_after_open c.args.names) _ _ _ c.all.ensures.ran
    (YieldsList-from_skip 1 (YieldsList-at c.skip.ensures.source
    (YieldsList-from_slice_split _ _ c.args.text.now c.split.ensures.rest c.split.ensures.done c.split.ensures.closure (λ x b q k. search (rules, tests))))
    c.skip.ensures.count)
    (λ x b q k. search (rules, tests))
