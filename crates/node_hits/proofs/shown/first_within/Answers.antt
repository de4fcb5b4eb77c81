use Rattle.std.proofs.Common.{◌∙◌, ap, take}
use Rattle.node_hits.specs.Tallies.{shown_limit, text_limit}
use Rattle.node_hits.proofs.Tops.{within_front}
use Rattle.node_hits.proofs.shown.first_within.Goals as goal

pub returns : goal.returns
returns c = ap (λ n. take n c.args.hits.now) c.count_within.ensures.count ∙ within_front shown_limit text_limit c.args.hits.now
