use Rattle.std.proofs.Common.{ℕ, List, ◌++◌, ◌∙◌, ap, refl}
use Rattle.std.proofs.lemmas.Result.{on_ok_weaker}
use Rattle.node_request.specs.declared.representation.Representation.TheVariants.{Fragment}
use Rattle.node_hits.specs.Tallying.{tally_from}
use Rattle.node_pages.specs.Fragments.{fragment_of_hits, hits_fragment}
use Rattle.node_resolver.specs.Answers.{sited_in}
use Rattle.node_resolver.proofs.AnswersWritten.{fragment_answered, shown_written}
use Rattle.node_resolver.proofs.answers.put_fragment.Goals as goal

pub returns : goal.returns
returns c = on_ok_weaker c.put_hits_fragment.result
    (λ is. fragment_answered Fragment c.args.query.now.text.now c.in_ok-ask.ask c.args.lookup.now (sited_in c.args.context.now) c.args.out.now.items c.put_hits_fragment.new.out.items
    refl c.in_ok-ask.ensures
    (shown_written (λ s a t u v. hits_fragment s c.args.query.now.text.now a t u v) c.library.result.now c.in_ok-ask.ask c.args.lookup.now (sited_in c.args.context.now) c.args.hits c.in_ok-also.also
    c.in_ok-others.others c.count.result c.args.out.now.items c.put_hits_fragment.new.out.items
    c.library.ensures c.requires.hits c.in_ok-also.ensures c.count.ensures c.in_ok-others.ensures
    (is ∙ ap (λ (p : List (List ℕ × List ℕ)). c.args.out.now.items ++ fragment_of_hits c.library.result.now p c.in_ok-ask.ask (tally_from c.args.hits)
    (tally_from c.in_ok-also.also) (tally_from c.in_ok-others.others)) c.pairs.ensures)))
    c.put_hits_fragment.ensures
