use Rattle.std.proofs.Common.{◌≡◌, ◌++◌, drop}
use Rattle.node_hits.specs.Hits.{links_of}
use Rattle.node_hits.specs.Tallying.{no_hits}
use Rattle.node_resolver.specs.AnswerTexts.{texts_from}
use Rattle.node_resolver.proofs.answers.put_texts.Given as goal

abbrev pub invariant-loop-active : goal.invariant-loop-active
invariant-loop-active l =
    (l.links ≡ links_of l.context.site.library l.fn.lookup)
    × (l.out.items ++ texts_from l.shares l.context.site.library l.context.actives.today l.fn.lookup l.tally (drop l.active-index l.context.actives.actives)
    ≡ l.fn.out.items ++ texts_from l.shares l.context.site.library l.context.actives.today l.fn.lookup no_hits l.context.actives.actives)
