use Rattle.std.proofs.Common.{◌∙◌, ap, filter, rules}
use Rattle.std.proofs.lemmas.Fn.{filter_same}
use Rattle.node_pages.specs.NumberFaults.{is_kept}
use Rattle.node_pages.proofs.number_faults.kept.Goals as goal

pub returns : goal.returns
returns c = filter_same _ is_kept _ (λ x b f' k. search rules) _ _ c.retain.ensures.filtered ∙ ap (filter is_kept) c.in_ok-kept.ensures.items
