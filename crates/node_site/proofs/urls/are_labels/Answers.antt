use Rattle.std.proofs.Common.{rules}
use borrow.Author.Tests.{tests}
use Rattle.std.proofs.lemmas.Iterator.Search.{all_from_yields_List}
use Rattle.std.proofs.lemmas.Iterator.Splits.{YieldsList-from_slice_split}
use Rattle.node_site.specs.Urls.{is_label}
use Rattle.node_site.proofs.urls.are_labels.Goals as goal

pub returns : goal.returns
returns c =
    all_from_yields_List is_label _ _ _ c.all.ensures.ran
    (YieldsList-from_slice_split _ _ c.args.host.now c.split.ensures.rest c.split.ensures.done c.split.ensures.closure (λ x b q k. search (rules, tests)))
    (λ x b q k. search (rules, tests))
